-- Small traces of links to gateways that no run leaves, and places that no lawful trace has.
use Rattle.std.specs.Prelude.{◌≡◌, ◌≢◌, ℕ, Bool, true, false, List, [], ◌∷◌, ◌++◌, Some}
use Rattle.hb_base.specs.declared.cause.Cause.{Cause}
use Rattle.hb_base.specs.declared.cause.Cause.TheVariants as cause
use Rattle.hb_base.specs.declared.door.Door.TheVariants as door
use Rattle.hb_base.specs.declared.door.Why.TheVariants as whys
use Rattle.hb_base.specs.declared.target.Target.{Target}
use Rattle.hb_captured.specs.Answer as answer
use Rattle.hb_captured.specs.Answer.{Routing, answer_on}
use Rattle.hb_front.specs.Reading.{Seen}
use Rattle.hb_gateway.specs.Key.{Key}
use Rattle.hb_gateway.specs.Sides.{came_on}
use Rattle.hb_model.specs.Messages.{held}
use Rattle.hb_model.specs.declared.config.NodeConfig.{NodeConfig}
use Rattle.hb_proxy.specs.Points.{Point, entries, control_of, gates_of}
use Rattle.hb_proxy.specs.Streams as streams
use Rattle.hb_world.specs.Trace.{sent}
use Rattle.hb_world.specs.declared.entry.Entry.{Entry}
use Rattle.hb_world.specs.declared.entry.Entry.TheVariants as e
use Rattle.hb_laws.specs.Refused.{Refused, dials, fails, waits}
use Rattle.hb_laws.specs.RefusedOutbound.{accepts_outbound, IsAsked}
use Rattle.hb_laws.specs.RefusedPlain.{accepts_plain}

-- DIALS: of a gateway for a link of the plain door; for one whose header didn't come; before anything was told
abbrev pub DialsForPlain : Type 0
DialsForPlain = (to : Target) (came : List ℕ)
    → Refused (λ g. dials g ∷ accepts_plain ∷ e.Came 2 came ∷ e.Dialled 3 to (whys.Gateway 2) ∷ [])

abbrev pub DialsUnasked : Type 0
DialsUnasked = (to : Target) → Refused (λ g. dials g ∷ accepts_outbound ∷ e.Dialled 3 to (whys.Gateway 2) ∷ [])

abbrev pub DialsUntold : Type 0
DialsUntold = (to : Target) (came : List ℕ)
    → Refused (λ g. fails g ∷ e.Accepted 1 door.Outbound ∷ e.Came 1 came ∷ e.Dialled 2 to (whys.Gateway 1) ∷ [])

-- BYTES: none goes on a link to a gateway before it is open; the first is the front header's; none goes on an outbound link whose gateway
-- said nothing
abbrev pub WritesUnopened : Type 0
WritesUnopened = (to : Target) (came bytes : List ℕ)
    → Refused (λ g. dials g ∷ accepts_outbound ∷ e.Came 2 came ∷ e.Dialled 3 to (whys.Gateway 2) ∷ e.Went 3 bytes ∷ [])

abbrev pub WritesNoFront : Type 0
WritesNoFront = (to : Target) (came bytes : List ℕ) (byte : ℕ) → byte ≢ 13
    → Refused (λ g. dials g ∷ accepts_outbound ∷ e.Came 2 came ∷ e.Dialled 3 to (whys.Gateway 2) ∷ e.Opened 3
    ∷ e.Went 3 (byte ∷ bytes) ∷ [])

abbrev pub InventsBytes : Type 0
InventsBytes = (to : Target) (came bytes : List ℕ)
    → Refused (λ g. dials g ∷ accepts_outbound ∷ e.Came 2 came ∷ e.Dialled 3 to (whys.Gateway 2) ∷ e.Opened 3
    ∷ e.Went 2 bytes ∷ [])

-- CLOSES: a link to a gateway is shut; one on which no call failed and whose peer may send more is closed, neither for want of memory nor
-- for what came on it, and the run goes on
abbrev pub ShutsGateway : Type 0
ShutsGateway = (to : Target) (came : List ℕ)
    → Refused (λ g. dials g ∷ accepts_outbound ∷ e.Came 2 came ∷ e.Dialled 3 to (whys.Gateway 2) ∷ e.Opened 3 ∷ e.Shut 3 ∷ [])

abbrev pub may_come : Cause → Bool
may_come cause.NoMemory = true
may_come (cause.ConnFault code) = true
may_come _ = false

abbrev pub ClosesGateway : Type 0
ClosesGateway = (to : Target) (came : List ℕ) (why : Cause) → may_come why ≡ false
    → Refused (λ g. dials g ∷ accepts_outbound ∷ e.Came 2 came ∷ e.Dialled 3 to (whys.Gateway 2) ∷ e.Opened 3 ∷ e.Closed 3 why ∷ waits
    ∷ [])

-- ENDS: one that broke, or whose gateway ended, is kept, and the proxy waits
abbrev pub KeepsBrokenGateway : Type 0
KeepsBrokenGateway = (to : Target) (came : List ℕ)
    → Refused (λ g. dials g ∷ accepts_outbound ∷ e.Came 2 came ∷ e.Dialled 3 to (whys.Gateway 2) ∷ e.Broke 3 ∷ waits ∷ [])

abbrev pub KeepsEndedGateway : Type 0
KeepsEndedGateway = (to : Target) (came : List ℕ)
    → Refused (λ g. dials g ∷ accepts_outbound ∷ e.Came 2 came ∷ e.Dialled 3 to (whys.Gateway 2) ∷ e.Opened 3 ∷ e.Ended 3 ∷ waits ∷ [])

-- PLACES: a byte goes on a link though all that came on its stream went already; or another one came next there. `Relays` refuses both
pub record GoesUnbrought (g : NodeConfig) (before : List Point) (z : Entry) : Type 0 where
  pub link : ℕ
  pub gate : ℕ
  pub stream : ℕ
  pub byte : ℕ
  pub more : List ℕ
  pub goes : z ≡ e.Went link (byte ∷ more)
  pub asked : streams.IsAsked before link gate stream
  pub all_went : sent link (entries before) ≡ came_on stream (gates_of gate before)

pub record ChangesBrought (g : NodeConfig) (before : List Point) (z : Entry) : Type 0 where
  pub link : ℕ
  pub gate : ℕ
  pub stream : ℕ
  pub byte : ℕ
  pub other : ℕ
  pub rest : List ℕ
  pub more : List ℕ
  pub goes : z ≡ e.Went link (other ∷ more)
  pub asked : streams.IsAsked before link gate stream
  pub came : came_on stream (gates_of gate before) ≡ sent link (entries before) ++ byte ∷ rest
  pub differs : byte ≢ other

-- a link is dialled straight though its way leads by a gateway
pub record DialsRound (g : NodeConfig) (before : List Point) (z : Entry) : Type 0 where
  pub link : ℕ
  pub up : ℕ
  pub to : Target
  pub seen : Seen
  pub dialled : z ≡ e.Dialled up to (whys.Direct link)
  pub asked : IsAsked g link seen before
  pub aim : Routing → answer.Aim
  pub keyed : (routing : Routing) → (key : Key) × (answer.key_of (aim routing) ≡ Some key)
  pub routed : (routing : Routing) → answer_on door.Outbound (held g (control_of asked.front)) routing seen ≡ answer.aims (aim routing)
