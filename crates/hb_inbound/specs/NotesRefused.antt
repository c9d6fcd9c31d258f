-- Notes that the law refuses, and a run whose notes it lets.
use Rattle.std.specs.Prelude.{◌≡◌, ◌≢◌, ℕ, Bool, true, false, List, [], ◌∷◌, ◌++◌, Option, Some, None}
use Rattle.hb_base.specs.declared.cause.Cause.TheVariants as cause
use Rattle.hb_base.specs.declared.door.Why.TheVariants as whys
use Rattle.hb_base.specs.declared.note.Note.{Note}
use Rattle.hb_base.specs.declared.note.Note.TheVariants as note
use Rattle.hb_base.specs.declared.target.Target.{Target}
use Rattle.hb_conn.specs.Observed.{own_side_open}
use Rattle.hb_conn.specs.declared.found.Found.TheVariants as found
use Rattle.hb_front.specs.Reading.{Seen}
use Rattle.hb_frames.specs.RawFrame.{spelling}
use Rattle.hb_held.specs.Held.{Resources}
use Rattle.hb_history.specs.Points as history
use Rattle.hb_hpack.specs.declared.header.HeaderList.{HeaderList}
use Rattle.hb_verdict.specs.declared.verdict.Verdict.TheVariants.{Dial}
use Rattle.hb_world.specs.declared.entry.Entry.TheVariants as e
use Rattle.hb_inbound.specs.ClosesRefused.{served}
use Rattle.hb_inbound.specs.Connections.{IsOneHistory}
use Rattle.hb_inbound.specs.Notes.{NoteLaw}
use Rattle.hb_inbound.specs.Part.{Part, entry, up, fronted, looked, decided, accepted, refused, left, done}
use Rattle.hb_inbound.specs.RefusedRuns.{peer_in}
use Rattle.hb_inbound.specs.RelayRefused.{one_octet}
use Rattle.hb_inbound.specs.Runs.{target_named}

-- a request comes on stream 1 of link 2, is answered with a dial, and is accepted
abbrev pub asked_on : Seen → HeaderList → Target → List Part
asked_on seen headers target = fronted seen ∷ looked [] (found.Opened 1 false) headers ∷ decided 1 false (Dial target) ∷ []

abbrev pub answer_note : Seen → HeaderList → ℕ → Note
answer_note seen headers status = note.Verdict 2 1 status (peer_in seen) (target_named headers)

abbrev pub accepted_on : Seen → HeaderList → Target → List Part
accepted_on seen headers target = asked_on seen headers target ++ accepted 1 (answer_note seen headers 200) ∷ []

-- a note that no request is for
abbrev pub NotesUnasked : Type 0
NotesUnasked = (start : Resources) (l s status : ℕ) (resets : Bool) (made : Note) → NoteLaw start l (refused s status resets made ∷ []) → ⊥

-- another status than the one that is put; another target than the request named
abbrev pub NotesOther : Type 0
NotesOther = (start : Resources) (seen : Seen) (headers : HeaderList) (target : Target) (status : ℕ) → 200 ≢ status
    → NoteLaw start 2 (asked_on seen headers target ++ accepted 1 (answer_note seen headers status) ∷ []) → ⊥

abbrev pub NotesElsewhere : Type 0
NotesElsewhere = (start : Resources) (seen : Seen) (headers : HeaderList) (target : Target) (named : Option Target)
    → target_named headers ≢ named
    → NoteLaw start 2 (asked_on seen headers target ++ accepted 1 (note.Verdict 2 1 200 (peer_in seen) named) ∷ []) → ⊥

-- a tunnel that was never accepted has no end, and one that lives none yet; an end is noted once
abbrev pub EndsUnaccepted : Type 0
EndsUnaccepted = (start : Resources) (seen : Seen) (headers : HeaderList) (target : Target) (made : Note)
    → NoteLaw start 2 (asked_on seen headers target ++ done 1 made ∷ []) → ⊥

abbrev pub EndsAlive : Type 0
EndsAlive = (start : Resources) (seen : Seen) (headers : HeaderList) (target : Target) (made : Note)
    → NoteLaw start 2 (accepted_on seen headers target ++ left 1 (Some made) ∷ []) → ⊥

abbrev pub EndsTwice : Type 0
EndsTwice = (start : Resources) (seen : Seen) (headers : HeaderList) (target : Target) (first second : Note)
    → NoteLaw start 2 (accepted_on seen headers target ++ done 1 first ∷ done 1 second ∷ []) → ⊥

-- a byte was written to the upstream, or an octet of DATA went, and isn't counted
abbrev pub CountsNoneUp : Type 0
CountsNoneUp = (start : Resources) (seen : Seen) (headers : HeaderList) (target : Target) (byte down : ℕ)
    → NoteLaw start 2 (accepted_on seen headers target ++ up 1 (e.Went 3 (byte ∷ [])) ∷ done 1 (note.End 2 1 cause.Done 0 down) ∷ []) → ⊥

abbrev pub CountsNoneDown : Type 0
CountsNoneDown = (start : Resources) (seen : Seen) (headers : HeaderList) (target : Target) (ups : ℕ)
    → NoteLaw start 2
    (accepted_on seen headers target ++ entry (e.Went 2 (spelling one_octet)) ∷ done 1 (note.End 2 1 cause.Done ups 0) ∷ []) → ⊥

-- the upstream of a tunnel breaks, and the link is read on without a note; or its upstream is closed, or it ends without one
abbrev pub ReadsUnnoted : Type 0
ReadsUnnoted = (start : Resources) (seen : Seen) (headers : HeaderList) (target : Target) (bytes : List ℕ)
    → NoteLaw start 2 (accepted_on seen headers target ++ up 1 (e.Broke 3) ∷ entry (e.Came 2 bytes) ∷ []) → ⊥

abbrev pub ClosesUnnoted : Type 0
ClosesUnnoted = (start : Resources) (seen : Seen) (headers : HeaderList) (target : Target)
    → NoteLaw start 2 (accepted_on seen headers target ++ up 1 (e.Broke 3) ∷ up 1 (e.Closed 3 cause.UpFault) ∷ []) → ⊥

abbrev pub EndsUnnoted : Type 0
EndsUnnoted = (start : Resources) (seen : Seen) (headers : HeaderList) (target : Target)
    → NoteLaw start 2 (accepted_on seen headers target ++ up 1 (e.Broke 3) ∷ left 1 None ∷ []) → ⊥

-- a pending tunnel's upstream fails while the link serves and its stream stands, and 502 is left out
abbrev pub failed_on : Seen → List history.Point → HeaderList → Target → List Part
failed_on seen points headers target =
    served seen ++ looked points (found.Opened 1 false) headers ∷ decided 1 false (Dial target)
    ∷ up 1 (e.DialFailed target (whys.Upstream 2 1)) ∷ []

abbrev pub LeavesStanding : Type 0
LeavesStanding = (start : Resources) (seen : Seen) (points : List history.Point) (headers : HeaderList) (target : Target)
    → ((now : IsOneHistory (failed_on seen points headers target)) → own_side_open now.conn 1 ≡ true)
    → NoteLaw start 2 (failed_on seen points headers target ++ left 1 None ∷ []) → ⊥

-- a byte is written, and both are noted
abbrev pub NotesBoth : Type 0
NotesBoth = (start : Resources) (seen : Seen) (headers : HeaderList) (target : Target) (byte : ℕ)
    → NoteLaw start 2 (accepted_on seen headers target ++ up 1 (e.Went 3 (byte ∷ [])) ∷ done 1 (note.End 2 1 cause.Done 1 0) ∷ [])
