-- Small runs of a link to a gateway that the laws refuse, and one that may go.
use Rattle.std.specs.Prelude.{◌≡◌, ◌≢◌, ℕ, ◌<◌, Bool, true, false, List, [], ◌∷◌, None, Some, Ok}
use Rattle.hb_base.specs.declared.cause.Cause.{Cause}
use Rattle.hb_base.specs.declared.cause.Cause.TheVariants as cause
use Rattle.hb_base.specs.declared.door.Why.TheVariants as whys
use Rattle.hb_base.specs.declared.target.Target.{Target}
use Rattle.hb_conn.specs.Observed.{next_stream}
use Rattle.hb_conn.specs.declared.found.Found.TheVariants as found
use Rattle.hb_history.specs.Points as history
use Rattle.hb_hpack.specs.declared.header.Header.{Header}
use Rattle.hb_model.specs.Discovery.{status_of, is_interim}
use Rattle.hb_world.specs.declared.entry.Entry.{Entry}
use Rattle.hb_world.specs.declared.entry.Entry.TheVariants as e
use Rattle.hb_gateway.specs.Asks.{AskLaw}
use Rattle.hb_gateway.specs.Connections.{IsOneHistory}
use Rattle.hb_gateway.specs.Gateway.{Gateway, stage_of, is_active}
use Rattle.hb_gateway.specs.Hears.{hears}
use Rattle.hb_gateway.specs.Order.{IsInOrder}
use Rattle.hb_gateway.specs.Key.{Key, front_of, MayBeWritten}
use Rattle.hb_gateway.specs.Part.{Part, entry, dialled, looked, asks, tells, put, finished, reset, dropped, done}
use Rattle.hb_gateway.specs.Resets.{ResetLaw}
use Rattle.hb_gateway.specs.Response.{unused, asked, Heard, opens, brings, fails}
use Rattle.hb_gateway.specs.Runs.{Steps, StandsFor}
use Rattle.hb_gateway.specs.Sides.{BringLaw, SendLaw, put_on}
use Rattle.hb_inbound.specs.Calm.{data_waits}
use Rattle.hb_kept.specs.Payloads.{payloads}
use Rattle.hb_conn.specs.Observed.{sides}

-- STREAMS

-- one is asked for behind a GOAWAY; twice; with another number than the next one
abbrev pub AsksBehind : Type 0
AsksBehind = (last s captured : ℕ) (authority : Target) (headers : List Header) (points : List history.Point)
    → AskLaw (looked points (found.GoneAway last) headers ∷ asks s captured authority ∷ []) → ⊥

abbrev pub AsksTwice : Type 0
AsksTwice = (s first second : ℕ) (one other : Target) → AskLaw (asks s first one ∷ asks s second other ∷ []) → ⊥

abbrev pub AsksElsewhere : Type 0
AsksElsewhere = (g next s captured : ℕ) (authority : Target) (x y : Gateway) → next_stream x.conn ≡ Ok next → next ≢ s
    → Steps g x (asks s captured authority) y → ⊥

-- DATA is put in front of the status; a stream is reset that wasn't asked for
abbrev pub PutsEarly : Type 0
PutsEarly = (g s count : ℕ) (bytes : List ℕ) (x y : Gateway) → stage_of x s ≡ asked → Steps g x (put s bytes count) y → ⊥

abbrev pub ResetsUnasked : Type 0
ResetsUnasked = (g s code : ℕ) (x y : Gateway) → stage_of x s ≡ unused → Steps g x (reset s code) y → ⊥

-- a stream is reset of which neither side is open; one behind its reset; and one above the last of a GOAWAY
abbrev pub ResetsClosed : Type 0
ResetsClosed = (g s code : ℕ) (x y : Gateway) (parts : List Part) → StandsFor g x parts → is_active x.conn s ≡ false
    → Steps g x (reset s code) y → ⊥

abbrev pub ResetsTwice : Type 0
ResetsTwice = (s first second : ℕ) → ResetLaw (reset s first ∷ reset s second ∷ []) → ⊥

abbrev pub ResetsBehindAway : Type 0
ResetsBehindAway = (last s code : ℕ) (headers : List Header) (points : List history.Point) → last < s
    → ResetLaw (looked points (found.GoneAway last) headers ∷ reset s code ∷ []) → ⊥

abbrev pub DropsUnasked : Type 0
DropsUnasked = (g s begun : ℕ) (x y : Gateway) → stage_of x s ≡ unused → Steps g x (dropped s begun) y → ⊥

-- the first octet that goes isn't the front header's
abbrev pub WritesFirst : Type 0
WritesFirst = (g byte : ℕ) (key : Key) (bytes : List ℕ) (call : Entry) → byte ≢ 13
    → IsOneHistory (dialled call key ∷ entry (e.Went g (byte ∷ bytes)) ∷ []) → ⊥

-- one is dialled elsewhere than at the gateway of its key
abbrev pub DialsElsewhere : Type 0
DialsElsewhere = (g captured : ℕ) (to : Target) (key : Key) (x y : Gateway) → to ≢ key.gateway
    → Steps g x (dialled (e.Dialled g to (whys.Gateway captured)) key) y → ⊥

-- END_STREAM is put in front of DATA that waits; a tunnel is done of which the gateway didn't end its side; one is told what it didn't hear
abbrev pub FinishesEarly : Type 0
FinishesEarly = (g s : ℕ) (x y : Gateway) → data_waits x.conn s ≡ true → Steps g x (finished s) y → ⊥

abbrev pub DoneOpen : Type 0
DoneOpen = (g s begun : ℕ) (x y : Gateway) → (sides x.conn s).peer ≡ true → Steps g x (done s begun) y → ⊥

abbrev pub TellsUnheard : Type 0
TellsUnheard = (g s begun : ℕ) (heard : Heard) (x y : Gateway) → (x.streams s).mail ≡ None → Steps g x (tells s heard begun) y → ⊥

-- bytes are told that didn't come on the stream; and others than those that came
abbrev pub TellsUncome : Type 0
TellsUncome = (s byte begun : ℕ) (bytes : List ℕ) → BringLaw (tells s (brings (byte ∷ bytes)) begun ∷ []) → ⊥

-- bytes went on the stream that weren't put
abbrev pub SendsUnput : Type 0
SendsUnput = (s : ℕ) (parts : List Part) (law : SendLaw parts) → put_on s parts ≡ [] → payloads s law.history.stands.begun ≡ []

-- WHAT IS HEARD

-- a status below 200 that doesn't end its stream fails the tunnel, or opens it; another one than a success opens it
abbrev pub InterimIsHeard : Type 0
InterimIsHeard = (s : ℕ) (x : Gateway) (points : List history.Point) (headers : List Header) (heard : Heard) → stage_of x s ≡ asked
    → is_interim (status_of headers) ≡ true → hears x (looked points (found.Opened s false) headers) s ≡ Some heard → ⊥

abbrev pub RefusalOpens : Type 0
RefusalOpens = (s : ℕ) (x : Gateway) (points : List history.Point) (headers : List Header) (end now : Bool) → stage_of x s ≡ asked
    → status_of headers ≡ Some 403 → hears x (looked points (found.Opened s end) headers) s ≡ Some (opens now) → ⊥

-- bytes that came in front of the status are handed on
abbrev pub BringsEarly : Type 0
BringsEarly = (s : ℕ) (x : Gateway) (points : List history.Point) (headers : List Header) (end : Bool) (bytes : List ℕ)
    → stage_of x s ≡ asked → hears x (looked points (found.Chunk s end) headers) s ≡ Some (brings bytes) → ⊥

-- a tunnel opens twice; it brings bytes and isn't open; it goes on behind its failure
abbrev pub OpensTwice : Type 0
OpensTwice = (first second : Bool) → IsInOrder (opens first ∷ opens second ∷ []) → ⊥

abbrev pub BringsUnopened : Type 0
BringsUnopened = (bytes : List ℕ) → IsInOrder (brings bytes ∷ []) → ⊥

abbrev pub GoesOnBehind : Type 0
GoesOnBehind = (why : Cause) (heard : Heard) → IsInOrder (fails why ∷ heard ∷ []) → ⊥

-- WHAT MAY GO

-- a tunnel opens by a success, brings bytes, and fails
abbrev pub SuccessOpens : Type 0
SuccessOpens = (s : ℕ) (x : Gateway) (points : List history.Point) (headers : List Header) (end : Bool) → stage_of x s ≡ asked
    → status_of headers ≡ Some 200 → hears x (looked points (found.Opened s end) headers) s ≡ Some (opens end)

abbrev pub LifeIsInOrder : Type 0
LifeIsInOrder = (bytes : List ℕ) → IsInOrder (opens false ∷ brings bytes ∷ fails cause.PeerGone ∷ [])

-- the link is dialled for a captured link, it opens, one tunnel is asked for, and the front header goes
abbrev pub first_parts : ℕ → ℕ → Key → Target → List Part
first_parts g captured key authority =
    dialled (e.Dialled g key.gateway (whys.Gateway captured)) key ∷ entry (e.Opened g) ∷ asks 1 captured authority
    ∷ entry (e.Went g (front_of key)) ∷ []

abbrev pub FirstMayGo : Type 0
FirstMayGo = (g captured : ℕ) (key : Key) (authority : Target) → MayBeWritten key
    → (y : Gateway) × StandsFor g y (first_parts g captured key authority)
