-- Small runs of a link of the plain door, link 2 with the upstream 3, that the laws refuse.
use Rattle.std.specs.Prelude.{◌≡◌, ◌≢◌, ℕ, List, [], ◌∷◌, ◌++◌, length, Some, None}
use Rattle.hb_base.specs.declared.cause.Cause.{Cause}
use Rattle.hb_base.specs.declared.cause.Cause.TheVariants as cause
use Rattle.hb_base.specs.declared.door.Door.TheVariants as door
use Rattle.hb_base.specs.declared.door.Why.TheVariants as whys
use Rattle.hb_base.specs.declared.identity.Identity.{Identity}
use Rattle.hb_base.specs.declared.note.Note.{Note}
use Rattle.hb_base.specs.declared.target.Target.{Target}
use Rattle.hb_disco.specs.declared.response.Response.{Response}
use Rattle.hb_front.specs.Reading.{Seen}
use Rattle.hb_held.specs.Held.{Resources}
use Rattle.hb_held.specs.Outcome.{after_response}
use Rattle.hb_table.specs.declared.judgement.Judged.TheVariants.{Admitted}
use Rattle.hb_verdict.specs.declared.verdict.Verdict.TheVariants.{Dial}
use Rattle.hb_world.specs.declared.entry.Entry.TheVariants as e
use Rattle.hb_captured.specs.Access.{AccessLaw}
use Rattle.hb_captured.specs.Answer.{straight_to, unrouted, verdict_on}
use Rattle.hb_captured.specs.Ends.{EndLaw}
use Rattle.hb_captured.specs.Notes.{NoteLaw}
use Rattle.hb_captured.specs.Part.{Part, entry, up, welcomed, fronted, refused, accepted, left, done, applied}
use Rattle.hb_captured.specs.Relay.{RelayLaw}
use Rattle.hb_captured.specs.Runs.{verdict_note, end_note}
use Rattle.hb_captured.specs.Settled.{SettledLaw}
use Rattle.hb_captured.specs.Sides.{judged_in}
use Rattle.hb_captured.specs.Verdicts.{VerdictLaw}

-- these bytes came, of which the first are the header's, and its destination is dialled, opened and accepted
abbrev pub dialled : List ℕ → Seen → List Part
dialled bytes seen =
    entry (e.Accepted 2 door.Plain) ∷ welcomed ∷ entry (e.Came 2 bytes) ∷ fronted seen unrouted (straight_to seen.destination None)
    ∷ up (e.Dialled 3 seen.destination (whys.Plain 2)) ∷ []

abbrev pub lived : List ℕ → Seen → Note → List Part
lived bytes seen note = dialled bytes seen ++ up (e.Opened 3) ∷ accepted note ∷ []

-- and a response is applied
abbrev pub updated : List ℕ → Seen → Note → Response → List Part
updated bytes seen note r = lived bytes seen note ++ applied r ∷ []

-- JUDGED ONLY AT ITS BIRTH: behind a response that no longer admits the peer a byte goes to the upstream, or to the link; the link is
-- read; the upstream is closed as one that is done

abbrev pub IsRevoked : Resources → Seen → Response → Type 0
IsRevoked start seen r = judged_in (after_response start r) seen ≢ Admitted

abbrev pub WritesBehind : Type 0
WritesBehind = (start : Resources) (bytes : List ℕ) (seen : Seen) (note : Note) (r : Response) (byte : ℕ) → IsRevoked start seen r
    → AccessLaw start (updated bytes seen note r ++ up (e.Went 3 (byte ∷ [])) ∷ []) → ⊥

abbrev pub WritesBackBehind : Type 0
WritesBackBehind = (start : Resources) (bytes : List ℕ) (seen : Seen) (note : Note) (r : Response) (byte : ℕ) → IsRevoked start seen r
    → AccessLaw start (updated bytes seen note r ++ entry (e.Went 2 (byte ∷ [])) ∷ []) → ⊥

abbrev pub ReadsBehind : Type 0
ReadsBehind = (start : Resources) (bytes : List ℕ) (seen : Seen) (note : Note) (r : Response) (byte : ℕ) → IsRevoked start seen r
    → EndLaw 2 start (updated bytes seen note r ++ entry (e.Came 2 (byte ∷ [])) ∷ []) → ⊥

abbrev pub ClosesForAnother : Type 0
ClosesForAnother = (start : Resources) (bytes : List ℕ) (seen : Seen) (note : Note) (r : Response) → IsRevoked start seen r
    → EndLaw 2 start (updated bytes seen note r ++ up (e.Closed 3 cause.Done) ∷ []) → ⊥

-- ENDED AT ANY UPDATE: it closes though what is held still admits the peer
abbrev pub ClosesAdmitted : Type 0
ClosesAdmitted = (start : Resources) (bytes : List ℕ) (seen : Seen) (note : Note) (r : Response) (why : Cause)
    → judged_in (after_response start r) seen ≡ Admitted
    → EndLaw 2 start (updated bytes seen note r ++ entry (e.Closed 2 why) ∷ []) → ⊥

-- A SHUT IN FRONT OF THE LAST BYTE: one came behind the header, and the link ended; the upstream is shut though the byte waits. Or in
-- front of the end
abbrev pub ShutsWaiting : Type 0
ShutsWaiting = (start : Resources) (seen : Seen) (note : Note) (header : List ℕ) (byte : ℕ) → length header ≡ seen.length
    → RelayLaw start (lived (header ++ byte ∷ []) seen note ++ entry (e.Ended 2) ∷ up (e.Shut 3) ∷ []) → ⊥

abbrev pub ShutsEarly : Type 0
ShutsEarly = (start : Resources) (bytes : List ℕ) (seen : Seen) (note : Note)
    → RelayLaw start (lived bytes seen note ++ up (e.Shut 3) ∷ []) → ⊥

abbrev pub ShutsBackWaiting : Type 0
ShutsBackWaiting = (start : Resources) (bytes : List ℕ) (seen : Seen) (note : Note) (byte : ℕ)
    → RelayLaw start (lived bytes seen note ++ up (e.Came 3 (byte ∷ [])) ∷ up (e.Ended 3) ∷ entry (e.Shut 2) ∷ []) → ⊥

-- ITS HEADER GOES AS BYTES OF THE TUNNEL: nothing came behind the header, of which the first byte is written to the upstream
abbrev pub WritesHeader : Type 0
WritesHeader = (start : Resources) (seen : Seen) (note : Note) (header : List ℕ) (byte : ℕ) → length header ≡ seen.length
    → RelayLaw start (lived header seen note ++ up (e.Went 3 (byte ∷ [])) ∷ []) → ⊥

-- or it is counted as such at the end
abbrev pub CountsHeader : Type 0
CountsHeader = (start : Resources) (bytes : List ℕ) (seen : Seen) (note : Note)
    → NoteLaw start 2 (lived bytes seen note ++ done (end_note 2 cause.Done 63 0) ∷ []) → ⊥

-- A REST DROPPED BEHIND A SHORT WRITE: of two bytes the second is written without the first; or it is done though the second waits
abbrev pub DropsFirst : Type 0
DropsFirst = (start : Resources) (seen : Seen) (note : Note) (header : List ℕ) (first second : ℕ) → length header ≡ seen.length
    → first ≢ second → RelayLaw start (lived (header ++ first ∷ second ∷ []) seen note ++ up (e.Went 3 (second ∷ [])) ∷ []) → ⊥

abbrev pub DoneWaiting : Type 0
DoneWaiting = (start : Resources) (bytes : List ℕ) (seen : Seen) (note made : Note) (byte : ℕ)
    → EndLaw 2 start (lived bytes seen note ++ up (e.Came 3 (byte ∷ [])) ∷ up (e.Ended 3) ∷ entry (e.Ended 2) ∷ done made ∷ []) → ⊥

-- AN IDENTITY IS KEPT: the note of the verdict has one, at the plain door
abbrev pub KeepsIdentity : Type 0
KeepsIdentity = (start : Resources) (bytes : List ℕ) (seen : Seen) (who : Identity)
    → NoteLaw start 2 (lived bytes seen (verdict_note 2 200 (record { ip = seen.source.ip; identity = Some who }) seen.destination)) → ⊥

-- DIALS: elsewhere; twice; before the header; none though it is due, before the link is read on
abbrev pub DialsElsewhere : Type 0
DialsElsewhere = (start : Resources) (bytes : List ℕ) (seen : Seen) (to : Target) → seen.destination ≢ to
    → VerdictLaw 2 start (entry (e.Came 2 bytes) ∷ fronted seen unrouted (straight_to seen.destination None)
    ∷ up (e.Dialled 3 to (whys.Plain 2)) ∷ []) → ⊥

abbrev pub DialsTwice : Type 0
DialsTwice = (start : Resources) (bytes : List ℕ) (seen : Seen)
    → VerdictLaw 2 start (dialled bytes seen ++ up (e.Dialled 4 seen.destination (whys.Plain 2)) ∷ []) → ⊥

abbrev pub DialsUnasked : Type 0
DialsUnasked = (start : Resources) (to : Target)
    → EndLaw 2 start (entry (e.Accepted 2 door.Plain) ∷ welcomed ∷ up (e.Dialled 3 to (whys.Plain 2)) ∷ []) → ⊥

abbrev pub LeavesOutDial : Type 0
LeavesOutDial = (start : Resources) (bytes more : List ℕ) (seen : Seen)
    → SettledLaw start (entry (e.Accepted 2 door.Plain) ∷ welcomed ∷ entry (e.Came 2 bytes)
    ∷ fronted seen unrouted (straight_to seen.destination None) ∷ entry (e.Came 2 more) ∷ []) → ⊥

-- VERDICTS: a header that didn't come; a destination that isn't to be dialled, or is
abbrev pub InventsHeader : Type 0
InventsHeader = (start : Resources) (seen : Seen)
    → VerdictLaw 2 start (entry (e.Accepted 2 door.Plain) ∷ welcomed ∷ fronted seen unrouted (straight_to seen.destination None) ∷ []) → ⊥

abbrev pub DialsRefused : Type 0
DialsRefused = (start : Resources) (bytes : List ℕ) (seen : Seen) → verdict_on start seen ≢ Dial seen.destination
    → VerdictLaw 2 start (entry (e.Came 2 bytes) ∷ fronted seen unrouted (straight_to seen.destination None) ∷ []) → ⊥

abbrev pub RefusesAdmitted : Type 0
RefusesAdmitted = (start : Resources) (bytes : List ℕ) (seen : Seen) (note : Note) → verdict_on start seen ≡ Dial seen.destination
    → VerdictLaw 2 start (entry (e.Came 2 bytes) ∷ refused seen unrouted (cause.Refused 404) 404 note ∷ []) → ⊥

-- NOTES: a second verdict; an end of what was never accepted; an end twice; none, where the link is closed behind its end; 502 left out
abbrev pub NotesTwice : Type 0
NotesTwice = (start : Resources) (bytes : List ℕ) (seen : Seen) (note again : Note)
    → NoteLaw start 2 (lived bytes seen note ++ accepted again ∷ []) → ⊥

abbrev pub EndsUnaccepted : Type 0
EndsUnaccepted = (start : Resources) (bytes : List ℕ) (seen : Seen) (made : Note)
    → NoteLaw start 2 (dialled bytes seen ++ done made ∷ []) → ⊥

abbrev pub EndsTwice : Type 0
EndsTwice = (start : Resources) (bytes : List ℕ) (seen : Seen) (note first second : Note)
    → NoteLaw start 2 (lived bytes seen note ++ done first ∷ done second ∷ []) → ⊥

abbrev pub ClosesUnnoted : Type 0
ClosesUnnoted = (start : Resources) (bytes : List ℕ) (seen : Seen) (note : Note)
    → SettledLaw start (lived bytes seen note ++ up (e.Broke 3) ∷ up (e.Closed 3 cause.UpFault) ∷ []) → ⊥

abbrev pub LeavesOut502 : Type 0
LeavesOut502 = (start : Resources) (bytes : List ℕ) (seen : Seen)
    → NoteLaw start 2 (dialled bytes seen ++ up (e.Broke 3) ∷ left None ∷ []) → ⊥

-- WAITS WITH WORK LEFT: both sides ended and all went, and the link is tried on; the link ended and all went, and the upstream isn't shut
abbrev pub TriesDone : Type 0
TriesDone = (start : Resources) (header : List ℕ) (seen : Seen) (note : Note) → length header ≡ seen.length
    → SettledLaw start (lived header seen note ++ entry (e.Ended 2) ∷ up (e.Ended 3) ∷ entry (e.Broke 2) ∷ []) → ⊥

abbrev pub LeavesOpen : Type 0
LeavesOpen = (start : Resources) (header : List ℕ) (seen : Seen) (note : Note) (byte : ℕ) → length header ≡ seen.length
    → SettledLaw start (lived header seen note ++ entry (e.Ended 2) ∷ up (e.Came 3 (byte ∷ [])) ∷ []) → ⊥
