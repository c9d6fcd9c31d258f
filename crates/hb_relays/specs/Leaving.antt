-- What becomes of the stream that a link leaves. No public clause cites this file.
use Rattle.std.specs.Prelude.{◌≡◌, ℕ, ◌<◌, ◌^◌, Bool, true, false, List, Option, Some, None, IsSome}
use Rattle.std.specs.FinMap.{empty, get, insert}
use Rattle.hb_base.specs.declared.cause.Cause.{Cause}
use Rattle.hb_base.specs.declared.note.Note.{Note}
use Rattle.hb_captured.specs.Part.{note_if}
use Rattle.hb_gate.specs.Calls.{Drops, Enters, HasBegun, IsCarrying, ResetsAll}
use Rattle.hb_gate.specs.Streams.{TakesMail}
use Rattle.hb_gate.specs.declared.gate.Gate.{Gate}
use Rattle.hb_gate.specs.declared.looking.Mail.{Mail}
use Rattle.hb_gateway.specs.Calm.{close_due}
use Rattle.hb_gateway.specs.Part.{stopped}
use Rattle.hb_link.specs.Noted.{Told, Takes}
use Rattle.hb_model.specs.Point as point
use Rattle.hb_model.specs.declared.config.NodeConfig.{NodeConfig}
use Rattle.hb_proxy.specs.Machine.{Machine}
use Rattle.hb_proxy.specs.Points.{Point, of_control}
use Rattle.hb_proxy.specs.Runs.{Steps, StandsFor}
use Rattle.hb_relay.specs.Answering.{routing_of}
use Rattle.hb_relay.specs.Calls.{StopsLeaving}
use Rattle.hb_relay.specs.Streamed.{HasStream}
use Rattle.hb_relay.specs.declared.relay.Relay.{Relay}
use Rattle.hb_relay.specs.declared.routes.Routes.{Routes}
use Rattle.hb_relays.specs.Joining.{Gates}
use Rattle.hb_relays.specs.Reaches.{Follows}
use Rattle.hb_relays.specs.Shows.{IsIndex, ShowsGate, ShowsRelay}
use Rattle.hb_relays.specs.Touched.{is_touched}
use Rattle.hb_relays.specs.Walks.{changed, gate_touched_at, routes_with, touched_at, with_gate}
use Rattle.hb_relays.specs.declared.relays.Relays.{Relays}

-- each stream whose tunnel's end asks for that is reset, while the link to the gateway carries streams
abbrev pub ResetsIf : Bool → Gate → Gate → Type 0
ResetsIf true old new = ResetsAll old new
ResetsIf false old new = new ≡ old

abbrev pub Resets : Gate → Gate → Type 0
Resets old new = (carries : Bool) × IsCarrying old carries × ResetsIf carries old new

-- how many bytes have begun to go on a stream of it
abbrev pub BegunOn : Option Gate → (s begun : ℕ) → Type 0
BegunOn None s begun = begun ≡ 0
BegunOn (Some kept) s begun = HasBegun kept s begun

-- the stream is given up, and reset
abbrev pub GivesUpOn : Option Gate → (n s : ℕ) → Relays → Relays → Type 0
GivesUpOn None n s old new = new ≡ old
GivesUpOn (Some kept) n s old new =
    (mid after : Gate) × (begun : ℕ) × Drops s begun kept mid × Resets mid after × (new ≡ gate_touched_at n (with_gate n after old))

abbrev pub GivesUp : (n s : ℕ) → Relays → Relays → Type 0
GivesUp n s old new = GivesUpOn (get old.gates n) n s old new

-- WHAT A TUNNEL IS TO BE TOLD OF ITS END is taken of its stream: how many of its bytes have begun to go
abbrev pub begun_in : Option Mail → ℕ
begun_in None = 0
begun_in (Some mail) = mail.begun

abbrev pub TakesOn : Option Gate → (n s begun : ℕ) → Gates → Gates → Type 0
TakesOn None n s begun old new = (begun ≡ 0) × (new ≡ old)
TakesOn (Some kept) n s begun old new =
    (mail : Option Mail) × (after : Gate) × TakesMail s kept mail after × (begun ≡ begun_in mail) × (new ≡ insert old n after)

abbrev pub TakesAt : Option (ℕ × ℕ) → (begun : ℕ) → Gates → Gates → Type 0
TakesAt None begun old new = (begun ≡ 0) × (new ≡ old)
TakesAt (Some at) begun old new = TakesOn (get old at.0) at.0 at.1 begun old new

-- THE RUN ENDS: a link to a gateway ends with it
abbrev pub StopsGate : Cause → Option Gate → ℕ → Relays → Relays → Type 0
StopsGate cause None n old new = new ≡ old
StopsGate cause (Some kept) n old new =
    (after : Gate) × Enters (stopped cause) kept after × (new ≡ gate_touched_at n (with_gate n after old))

abbrev pub HasStopped : Cause → (old new : Option Gate) → Type 0
HasStopped cause None new = new ≡ None
HasStopped cause (Some kept) new = (after : Gate) × Enters (stopped cause) kept after × (new ≡ Some after)

-- so each does, and nothing else changes
pub record GatesStop (cause : Cause) (old new : Relays) : Type 0 where
  pub ended : (n : ℕ) → HasStopped cause (get old.gates n) (get new.gates n)
  pub touched : (n : ℕ) → IsSome (get old.gates n) → is_touched new.gate_due n ≡ true
  pub rest : new ≡ record old { gates = new.gates; gate_due = new.gate_due; gate_stirs = new.gate_stirs }

abbrev pub AreNumbered : Gates → Type 0
AreNumbered gates = (n : ℕ) → IsSome (get gates n) → n < 2 ^ 64

abbrev pub StopsGates : Cause → Relays → Relays → Type 0
StopsGates cause old new = AreNumbered old.gates → GatesStop cause old new

-- a plain link ends with it, and leaves its stream
abbrev pub StopsAt : Cause → Option Relay → ℕ → Relays → Told → Relays → Told → Type 0
StopsAt cause None n old told new now = (new ≡ old) × (now ≡ told)
StopsAt cause (Some link) n old told new now =
    (at : Option (ℕ × ℕ)) × (begun : ℕ) × (gates : Gates) × (after : Relay) × (made : Option Note)
    × HasStream link at × TakesAt at begun old.gates gates × StopsLeaving begun cause link after made
    × (new ≡ touched_at n (record (changed n after old) { gates = gates })) × Takes told (note_if made) now

-- The links to gateways have ended, and the plain ones are to: those are shown behind the end of the run, these in front of it
pub record ShowsEnding (g : NodeConfig) (k : Relays) (x y : Machine) : Type 0 where
  pub relays : (l : ℕ) → ShowsRelay l (get k.relays l) (x.plain l)
  pub index : IsIndex k.ups x.plain
  pub numbered : (l : ℕ) → IsSome (get k.relays l) → l < 2 ^ 64
  pub gates : (n : ℕ) → ShowsGate n (get k.gates n) (y.gates n)
  pub gate_numbered : AreNumbered k.gates
  pub gate_idle : (n : ℕ) → is_touched k.gate_due n ≡ false → close_due (y.gates n).phase ≡ None

-- then each plain link does, and no connection is counted any more
pub record StopsLinks (cause : Cause) (old : Relays) (told : Told) (new : Relays) (now : Told) : Type 0 where
  pub routes : new.routes ≡ old.routes
  pub follows : (g : NodeConfig) (x y : Machine) (points : List Point) → StandsFor g x points
      → Steps g x (of_control (point.stopped cause)) y → ShowsEnding g old x y → (routes : Routes)
      → routing_of routes ≡ record { opens = empty; hbone_port = g.hbone_port } → Follows g y (routes_with routes new) told now
