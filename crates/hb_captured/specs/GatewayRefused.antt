-- Small runs of a link of the outbound door, link 2, whose way leads by a gateway, that the laws refuse.
use Rattle.std.specs.Prelude.{◌≡◌, ◌≢◌, ℕ, true, false, List, [], ◌∷◌, ◌++◌, length, Option}
use Rattle.hb_base.specs.declared.cause.Cause.{Cause}
use Rattle.hb_base.specs.declared.cause.Cause.TheVariants as cause
use Rattle.hb_base.specs.declared.door.Door.TheVariants as door
use Rattle.hb_base.specs.declared.door.Why.TheVariants as whys
use Rattle.hb_base.specs.declared.note.Note.{Note}
use Rattle.hb_base.specs.declared.target.Target.{Target}
use Rattle.hb_front.specs.Reading.{Seen}
use Rattle.hb_gateway.specs.Key.{Key}
use Rattle.hb_gateway.specs.Response.{opens, brings, fails}
use Rattle.hb_held.specs.Held.{Resources}
use Rattle.hb_route.specs.Answer.{by_gateway}
use Rattle.hb_verdict.specs.Verdict.{is_unspecified}
use Rattle.hb_world.specs.declared.entry.Entry.TheVariants as e
use Rattle.hb_captured.specs.Answer.{Aim, straight_to, through, key_for, unrouted, way_on}
use Rattle.hb_captured.specs.Ends.{EndLaw}
use Rattle.hb_captured.specs.GatewayRows.{GoesThrough}
use Rattle.hb_captured.specs.Notes.{NoteLaw}
use Rattle.hb_captured.specs.OutboundRefused.{GoesStraight, taken_in}
use Rattle.hb_captured.specs.Part.{Part, entry, up, fronted, refused, accepted, asked, hears, put, finished, completed}
use Rattle.hb_captured.specs.Relay.{RelayLaw}
use Rattle.hb_captured.specs.Runs.{end_note}
use Rattle.hb_captured.specs.Verdicts.{VerdictLaw}

-- these bytes came, of which the first are the header's, and its bytes are to go by a gateway
abbrev pub aimed : List ℕ → Seen → Aim → List Part
aimed bytes seen aim = taken_in door.Outbound bytes ++ fronted seen unrouted aim ∷ []

-- the gateway opened the stream 1 of the link 3 to it
abbrev pub lived : List ℕ → Seen → Aim → Note → List Part
lived bytes seen aim note = aimed bytes seen aim ++ asked 3 1 ∷ hears (opens false) 0 ∷ accepted note ∷ []

-- THE STREAM: asked for twice; where the way is straight; a link of its own is dialled beside it
abbrev pub AsksTwice : Type 0
AsksTwice = (start : Resources) (bytes : List ℕ) (seen : Seen) (aim : Aim)
    → EndLaw 2 start (aimed bytes seen aim ++ asked 3 1 ∷ asked 4 1 ∷ []) → ⊥

abbrev pub AsksStraight : Type 0
AsksStraight = (start : Resources) (bytes : List ℕ) (seen : Seen) (to : Target) (endpoint : Option (List ℕ))
    → VerdictLaw 2 start (aimed bytes seen (straight_to to endpoint) ++ asked 3 1 ∷ []) → ⊥

abbrev pub DialsBeside : Type 0
DialsBeside = (start : Resources) (bytes : List ℕ) (seen : Seen) (key : Key) (to authority : Target) (endpoint : List ℕ)
    → VerdictLaw 2 start (aimed bytes seen (through key authority endpoint) ++ up (e.Dialled 3 to (whys.Gateway 2)) ∷ []) → ⊥

-- THE WAY: straight though it leads by a gateway; by one though it is straight; by one at the unspecified address; for another identity
-- than its source's; refused
abbrev pub GoesRound : Type 0
GoesRound = (start : Resources) (bytes : List ℕ) (seen : Seen) (gateway authority to : Target) (endpoint : List ℕ)
    (name : Option (List ℕ)) → GoesThrough start seen gateway authority endpoint
    → VerdictLaw 2 start (aimed bytes seen (straight_to to name)) → ⊥

abbrev pub GoesThroughStraight : Type 0
GoesThroughStraight = (start : Resources) (bytes : List ℕ) (seen : Seen) (key : Key) (to authority : Target) (endpoint : List ℕ)
    (name : Option (List ℕ)) → GoesStraight start seen to name
    → VerdictLaw 2 start (aimed bytes seen (through key authority endpoint)) → ⊥

abbrev pub GoesThroughNowhere : Type 0
GoesThroughNowhere = (start : Resources) (bytes : List ℕ) (seen : Seen) (gateway authority : Target) (endpoint : List ℕ) (aim : Aim)
    → way_on start unrouted seen ≡ by_gateway gateway authority endpoint → is_unspecified gateway.ip ≡ true
    → VerdictLaw 2 start (aimed bytes seen aim) → ⊥

abbrev pub SpeaksForAnother : Type 0
SpeaksForAnother = (start : Resources) (bytes : List ℕ) (seen : Seen) (key : Key) (gateway authority : Target) (endpoint : List ℕ)
    → GoesThrough start seen gateway authority endpoint → key ≢ key_for start seen.source.ip gateway
    → VerdictLaw 2 start (aimed bytes seen (through key authority endpoint)) → ⊥

abbrev pub RefusesThrough : Type 0
RefusesThrough = (start : Resources) (bytes : List ℕ) (seen : Seen) (gateway authority : Target) (endpoint : List ℕ) (why : Cause)
    (status : ℕ) (note : Note) → GoesThrough start seen gateway authority endpoint
    → VerdictLaw 2 start (taken_in door.Outbound bytes ++ refused seen unrouted why status note ∷ []) → ⊥

-- IN FRONT OF THE GATEWAY'S ANSWER: bytes are put; bytes that came are taken
abbrev pub PutsUnopened : Type 0
PutsUnopened = (start : Resources) (bytes : List ℕ) (seen : Seen) (aim : Aim) (byte : ℕ)
    → RelayLaw start (aimed bytes seen aim ++ asked 3 1 ∷ put (byte ∷ []) ∷ []) → ⊥

abbrev pub TakesUnopened : Type 0
TakesUnopened = (start : Resources) (bytes : List ℕ) (seen : Seen) (aim : Aim) (byte : ℕ)
    → EndLaw 2 start (aimed bytes seen aim ++ asked 3 1 ∷ hears (brings (byte ∷ [])) 0 ∷ []) → ⊥

-- another byte is put than came; the stream is ended while the link may send
abbrev pub PutsAnother : Type 0
PutsAnother = (start : Resources) (seen : Seen) (aim : Aim) (note : Note) (header : List ℕ) (first second : ℕ)
    → length header ≡ seen.length → first ≢ second
    → RelayLaw start (lived (header ++ first ∷ []) seen aim note ++ put (second ∷ []) ∷ []) → ⊥

abbrev pub FinishesEarly : Type 0
FinishesEarly = (start : Resources) (bytes : List ℕ) (seen : Seen) (aim : Aim) (note : Note)
    → RelayLaw start (lived bytes seen aim note ++ finished ∷ []) → ⊥

-- BEHIND ITS GATEWAY'S END it stays open: it is read. It is closed while it has its stream; its end counts bytes that haven't begun to go
abbrev pub StaysOpen : Type 0
StaysOpen = (start : Resources) (bytes : List ℕ) (seen : Seen) (aim : Aim) (note : Note) (why : Cause) (byte : ℕ)
    → EndLaw 2 start (lived bytes seen aim note ++ hears (fails why) 0 ∷ entry (e.Came 2 (byte ∷ [])) ∷ []) → ⊥

abbrev pub KeepsStream : Type 0
KeepsStream = (start : Resources) (bytes : List ℕ) (seen : Seen) (aim : Aim) (note : Note)
    → EndLaw 2 start (lived bytes seen aim note ++ entry (e.Broke 2) ∷ entry (e.Closed 2 cause.PeerGone) ∷ []) → ⊥

abbrev pub CountsUnbegun : Type 0
CountsUnbegun = (start : Resources) (bytes : List ℕ) (seen : Seen) (aim : Aim) (note : Note)
    → NoteLaw start 2 (lived bytes seen aim note ++ completed 2 (end_note 2 cause.Done 3 0) ∷ []) → ⊥
