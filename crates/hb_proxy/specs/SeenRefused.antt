-- Machines and small traces that don't say the same of a link.
use Rattle.std.specs.Prelude.{◌≡◌, ◌≢◌, ℕ, Bool, true, false, List, [], ◌∷◌}
use Rattle.hb_base.specs.declared.cause.Cause.{Cause}
use Rattle.hb_base.specs.declared.door.Door.{Door}
use Rattle.hb_base.specs.declared.door.Door.TheVariants as door
use Rattle.hb_base.specs.declared.door.Why.TheVariants as whys
use Rattle.hb_base.specs.declared.target.Target.{Target}
use Rattle.hb_captured.specs.Captured as plain
use Rattle.hb_inbound.specs.Inbound.{serving}
use Rattle.hb_inbound.specs.Tunnel.{Tunnel, Stage, opening, live}
use Rattle.hb_model.specs.declared.config.NodeConfig.{NodeConfig}
use Rattle.hb_world.specs.declared.entry.Entry.{Entry}
use Rattle.hb_world.specs.declared.entry.Entry.TheVariants as e
use Rattle.hb_proxy.specs.Machine.{Machine, fresh}
use Rattle.hb_proxy.specs.Seen.{Seen}

-- A TUNNEL

-- link 1 is accepted, and its upstream, link 2, is dialled and opened
abbrev pub tunnelled : Target → List Entry
tunnelled to = e.Accepted 1 door.Inbound ∷ e.Dialled 2 to (whys.Upstream 1 1) ∷ e.Opened 2 ∷ []

-- the tunnel on stream 1 of link 1 has link 2 as its upstream, is at this stage, and is shut or not
abbrev pub IsTunnel : Stage → Bool → Tunnel → Type 0
IsTunnel stage shut t = (t.stage ≡ stage) × (t.up ≡ 2) × (t.shut ≡ shut)

abbrev pub HasTunnel : Machine → Stage → Bool → Type 0
HasTunnel x stage shut = IsTunnel stage shut ((x.inbound 1).tunnels 1)

-- a tunnel lives, and its upstream was never born; it is shut, and its upstream never was; its upstream is still to be open, and is
abbrev pub UpUnborn : Type 0
UpUnborn = (x : Machine) → HasTunnel x live false → Seen x (e.Accepted 1 door.Inbound ∷ []) → ⊥

abbrev pub ShutUntold : Type 0
ShutUntold = (x : Machine) (to : Target) → HasTunnel x live true → Seen x (tunnelled to) → ⊥

abbrev pub OpenUnheard : Type 0
OpenUnheard = (x : Machine) (to : Target) → HasTunnel x opening false → Seen x (tunnelled to) → ⊥

-- a link was closed, and the machine has it still; a link lives, accepted at whatever door, and the machine has none
abbrev pub KeepsClosed : Type 0
KeepsClosed = (x : Machine) (why : Cause) → (x.inbound 1).phase ≡ serving
    → Seen x (e.Accepted 1 door.Inbound ∷ e.Closed 1 why ∷ []) → ⊥

abbrev pub HasNone : Type 0
HasNone = (g : NodeConfig) (d : Door) → Seen (record (fresh g) { born = 1 }) (e.Accepted 1 d ∷ []) → ⊥

-- A PLAIN LINK

-- link 1 is accepted there, and its upstream, link 2, is dialled and opened
abbrev pub relayed : Target → List Entry
relayed to = e.Accepted 1 door.Plain ∷ e.Dialled 2 to (whys.Plain 1) ∷ e.Opened 2 ∷ []

-- link 1 of the plain door has link 2 as its upstream, is at this stage, and isn't closed
pub record HasRelay (x : Machine) (stage : plain.Stage) : Type 0 where
  pub stage_is : (x.plain 1).stage ≡ stage
  pub up : (x.plain 1).up ≡ 2
  pub going : (x.plain 1).closed ≡ false

-- it lives, and its upstream was never born; it is shut, and never was, or its upstream is; its upstream is still to be open, and is
abbrev pub RelayUnborn : Type 0
RelayUnborn = (x : Machine) → HasRelay x plain.live → Seen x (e.Accepted 1 door.Plain ∷ []) → ⊥

abbrev pub PlainShutUntold : Type 0
PlainShutUntold = (x : Machine) (to : Target) → HasRelay x plain.live → (x.plain 1).shut ≡ true → Seen x (relayed to) → ⊥

abbrev pub RelayShutUntold : Type 0
RelayShutUntold = (x : Machine) (to : Target) → HasRelay x plain.live → (x.plain 1).up_shut ≡ true → Seen x (relayed to) → ⊥

abbrev pub RelayOpenUnheard : Type 0
RelayOpenUnheard = (x : Machine) (to : Target) → HasRelay x plain.opening → Seen x (relayed to) → ⊥

-- it was closed, or its upstream was, and the machine has it still
abbrev pub KeepsPlainClosed : Type 0
KeepsPlainClosed = (x : Machine) (why : Cause) → HasRelay x plain.live
    → Seen x (e.Accepted 1 door.Plain ∷ e.Closed 1 why ∷ []) → ⊥

abbrev pub KeepsRelayClosed : Type 0
KeepsRelayClosed = (x : Machine) (to : Target) (why : Cause) → HasRelay x plain.live
    → Seen x (e.Accepted 1 door.Plain ∷ e.Dialled 2 to (whys.Plain 1) ∷ e.Opened 2 ∷ e.Closed 2 why ∷ []) → ⊥

-- another plain link has the same upstream; an inbound link has its number
abbrev pub SharesRelay : Type 0
SharesRelay = (x : Machine) (trace : List Entry) (k : ℕ) → HasRelay x plain.live → k ≢ 1 → (x.plain k).up ≡ 2 → Seen x trace → ⊥

abbrev pub IsBoth : Type 0
IsBoth = (x : Machine) (trace : List Entry) → HasRelay x plain.live → (x.inbound 1).phase ≡ serving → Seen x trace → ⊥
