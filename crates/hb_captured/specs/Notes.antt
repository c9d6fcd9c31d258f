-- The law of notes: one at the verdict, and one at the end of a tunnel that lived, each at its point.
use Rattle.std.specs.Prelude.{⊤, ◌≡◌, ℕ, fold, List, length, Option, Some, None}
use Rattle.hb_base.specs.declared.cause.Cause.{Cause}
use Rattle.hb_base.specs.declared.cause.Cause.TheVariants as cause
use Rattle.hb_base.specs.declared.note.Note.{Note}
use Rattle.hb_front.specs.Reading.{Seen}
use Rattle.hb_held.specs.Held.{Resources}
use Rattle.hb_captured.specs.Captured.{peer_noted}
use Rattle.hb_captured.specs.Part.{Part, fronted, refused, accepted, completed, left, done}
use Rattle.hb_captured.specs.Runs.{verdict_note, end_note, failure_status}
use Rattle.hb_captured.specs.Sides.{door_of, header_of, link_went, up_went, begun_of, course_of, over, AtEach}

-- what is still to be noted: nothing; the verdict, since the destination is to be dialled; the end, since it was accepted
pub data Noting : Type 0 where
  no_note : Noting
  answer : Noting
  end_of_it : Noting

abbrev pub noting_by : Noting → Part → Noting
noting_by noting (fronted seen routing aim) = answer
noting_by noting (accepted note) = end_of_it
noting_by noting (refused seen routing why status note) = no_note
noting_by noting (left made) = no_note
noting_by noting (done note) = no_note
noting_by noting (completed begun note) = no_note
noting_by noting part = noting

abbrev pub noting_of : List Part → Noting
noting_of parts = fold noting_by no_note parts

-- the verdict's note: this status, the peer of the header, as it is noted at the link's door, and its destination
pub record IsVerdictNote (l : ℕ) (before : List Part) (status : ℕ) (made : Note) : Type 0 where
  pub seen : Seen
  pub told : header_of before ≡ Some seen
  pub due : noting_of before ≡ answer
  pub is : made ≡ verdict_note l status (peer_noted (door_of before) seen) seen.destination

-- the bytes that were written to the upstream; of a stream those that have begun to go where it was left
abbrev pub gone_up : Option ℕ → List Part → ℕ
gone_up None before = length (up_went before)
gone_up (Some begun) before = begun

-- the note of an end: its cause, and how many bytes went to the upstream, or on the stream, and to the link
pub record IsEndNote (l : ℕ) (before : List Part) (why : Cause) (made : Note) : Type 0 where
  pub due : noting_of before ≡ end_of_it
  pub is : made ≡ end_note l why (gone_up (begun_of before) before) (length (link_went before))

-- of a tunnel that was pending 401 where it was revoked, 502 where its upstream failed or its gateway refused it, 503 where no link had
-- room, and nothing where it ended otherwise
abbrev pub FailsWith : ℕ → List Part → Option ℕ → Option Note → Type 0
FailsWith l before (Some status) (Some made) = IsVerdictNote l before status made
FailsWith l before None None = noting_of before ≡ answer
FailsWith l before status made = ⊥

-- by what is still to be noted
abbrev pub Leaves : ℕ → List Part → Cause → Noting → Option Note → Type 0
Leaves l before why answer made = FailsWith l before (failure_status why) made
Leaves l before why end_of_it (Some made) = IsEndNote l before why made
Leaves l before why noting made = ⊥

pub record IsLeft (start : Resources) (l : ℕ) (before : List Part) (made : Option Note) : Type 0 where
  pub why : Cause
  pub ended : course_of start before ≡ over why
  pub leaves : Leaves l before why (noting_of before) made

abbrev pub NotesAt : Resources → ℕ → List Part → Part → Type 0
NotesAt start l before (refused seen routing why status made) =
    (noting_of before ≡ no_note) × (made ≡ verdict_note l status (peer_noted (door_of before) seen) seen.destination)
NotesAt start l before (accepted made) = IsVerdictNote l before 200 made
NotesAt start l before (left made) = IsLeft start l before made
NotesAt start l before (done made) = IsEndNote l before cause.Done made
NotesAt start l before (completed begun made) =
    (noting_of before ≡ end_of_it) × (made ≡ end_note l cause.Done begun (length (link_went before)))
NotesAt start l before part = ⊤

abbrev pub NoteLaw : Resources → ℕ → List Part → Type 0
NoteLaw start l parts = AtEach (NotesAt start l) parts
