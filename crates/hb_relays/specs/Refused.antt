-- Links that code may not show, a call that isn't what it says, and links that may be shown.
use Rattle.std.specs.Prelude.{◌≡◌, ◌≢◌, ℕ, ◌<◌, ◌^◌, ◌==◌, true, false, if◌then◌else◌, List, Some, None}
use Rattle.std.specs.FinMap.{get, insert, empty}
use Rattle.hb_base.specs.declared.cause.Cause.{Cause}
use Rattle.hb_base.specs.declared.door.Door.{Door}
use Rattle.hb_base.specs.declared.target.Target.{Target}
use Rattle.hb_captured.specs.Answer.{through}
use Rattle.hb_captured.specs.Captured.{fronting, due, live, no_link, at_stage}
use Rattle.hb_captured.specs.Part.{entry}
use Rattle.hb_gate.specs.declared.gate.Gate.{Gate}
use Rattle.hb_gateway.specs.Gateway as gateway
use Rattle.hb_gateway.specs.Gateway.{opening, closing, closed, offers}
use Rattle.hb_model.specs.declared.config.NodeConfig.{NodeConfig}
use Rattle.hb_proxy.specs.Load.{PlacesFull}
use Rattle.hb_proxy.specs.Machine.{Machine, Outward, outward}
use Rattle.hb_proxy.specs.Points.{Point, of_plain}
use Rattle.hb_proxy.specs.Runs.{Steps, StandsFor}
use Rattle.hb_relay.specs.Answering.{routing_of}
use Rattle.hb_relay.specs.Shows.{captured_of}
use Rattle.hb_relay.specs.declared.relay.Relay.{Relay}
use Rattle.hb_world.specs.declared.entry.Entry.TheVariants as e
use Rattle.hb_relays.specs.Calls.{Begins}
use Rattle.hb_relays.specs.Shows.{ShowsRelays}
use Rattle.hb_relays.specs.Touched.{is_touched}
use Rattle.hb_relays.specs.declared.relays.Relays.{Relays}

-- the upstream of a link isn't found, or one is that is closed
abbrev pub LacksUp : Type 0
LacksUp = (g : NodeConfig) (k : Relays) (x : Outward) (l : ℕ)
    → 0 < (x.plain l).up → get k.ups (x.plain l).up ≡ None → ShowsRelays g k x → ⊥

abbrev pub FindsClosed : Type 0
FindsClosed = (g : NodeConfig) (k : Relays) (x : Outward) (l u : ℕ)
    → get k.ups u ≡ Some l → (x.plain l).up ≡ 0 → ShowsRelays g k x → ⊥

-- a link that lives isn't kept; one is kept under the number of another; one that is closed is kept
abbrev pub LacksLink : Type 0
LacksLink = (g : NodeConfig) (k : Relays) (x : Outward) (l : ℕ)
    → (x.plain l).stage ≡ live → get k.relays l ≡ None → ShowsRelays g k x → ⊥

abbrev pub KeepsUnderAnother : Type 0
KeepsUnderAnother = (g : NodeConfig) (k : Relays) (x : Outward) (l : ℕ) (w : Relay)
    → get k.relays l ≡ Some w → w.number ≢ l → ShowsRelays g k x → ⊥

abbrev pub KeepsClosed : Type 0
KeepsClosed = (g : NodeConfig) (k : Relays) (x : Outward) (l : ℕ) (w : Relay)
    → get k.relays l ≡ Some w → w.closed ≡ true → ShowsRelays g k x → ⊥

-- a dial is due of a link that isn't among those that may have an act due
abbrev pub MissesDial : Type 0
MissesDial = (g : NodeConfig) (k : Relays) (x : Outward) (l : ℕ)
    → (x.plain l).stage ≡ due → is_touched k.due l ≡ false → ShowsRelays g k x → ⊥

-- a link was accepted where a place is free, and nothing changed
abbrev pub ForgetsLink : Type 0
ForgetsLink = (g : NodeConfig) (x y : Machine) (points : List Point) (k : Relays) (d : Door) (n : ℕ) → StandsFor g x points
    → ShowsRelays g k (outward x) → PlacesFull false g x → Steps g x (of_plain n (entry (e.Accepted n d))) y → Begins d n k k → ⊥

-- other connections are counted than the machine counts, or gateways have another port
abbrev pub Miscounts : Type 0
Miscounts = (g : NodeConfig) (k : Relays) (x : Outward) → k.routes.opens ≢ x.opens → ShowsRelays g k x → ⊥

abbrev pub MistakesPort : Type 0
MistakesPort = (g : NodeConfig) (k : Relays) (x : Outward) → k.routes.hbone_port ≢ g.hbone_port → ShowsRelays g k x → ⊥

-- a link to a gateway that is dialled isn't kept; one that is closed is; a close is due of one that isn't among those that may have one;
-- a link waits for one to its gateway while one has room
abbrev pub LacksGate : Type 0
LacksGate = (g : NodeConfig) (k : Relays) (x : Outward) (n : ℕ)
    → (x.gates n).phase ≡ opening → get k.gates n ≡ None → ShowsRelays g k x → ⊥

abbrev pub KeepsClosedGate : Type 0
KeepsClosedGate = (g : NodeConfig) (k : Relays) (x : Outward) (n : ℕ) (w : Gate)
    → (x.gates n).phase ≡ closed → get k.gates n ≡ Some w → ShowsRelays g k x → ⊥

abbrev pub MissesClose : Type 0
MissesClose = (g : NodeConfig) (k : Relays) (x : Outward) (n : ℕ) (why : Cause)
    → (x.gates n).phase ≡ closing why → is_touched k.gate_due n ≡ false → ShowsRelays g k x → ⊥

abbrev pub WaitsThough : Type 0
WaitsThough = (g : NodeConfig) (k : Relays) (x : Outward) (l n : ℕ) (authority : Target) (endpoint : List ℕ) → (x.plain l).stage ≡ due
    → (x.plain l).aim ≡ through (x.gates n).key authority endpoint → offers (x.gates n) ≡ true → ShowsRelays g k x → ⊥

-- one link that was taken in just now, and no other, is shown by one without bytes
abbrev pub OneIsShown : Type 0
OneIsShown = (g : NodeConfig) (k : Relays) (w : Relay) (n : ℕ) → n < 2 ^ 64 → w.number ≡ n → captured_of w ≡ at_stage fronting no_link
    → k.relays ≡ insert empty n w → k.ups ≡ empty → k.gates ≡ empty
    → routing_of k.routes ≡ record { opens = empty; hbone_port = g.hbone_port }
    → ShowsRelays g k (record {
      plain = λ l. if l == n then at_stage fronting no_link else no_link;
      gates = λ m. gateway.no_link;
      opens = empty;
    })
