-- The law of notes: of each request one note at its answer, and of each tunnel that lived one at its end.
use Rattle.std.specs.Prelude.{⊤, ◌≡◌, ◌≢◌, ◌⊎◌, ℕ, ◌==◌, ◌<◌, ◌||◌, Bool, true, false, if◌then◌else◌, fold, List, length, Option, Some, None}
use Rattle.hb_base.specs.declared.cause.Cause.{Cause}
use Rattle.hb_base.specs.declared.cause.Cause.TheVariants as cause
use Rattle.hb_base.specs.declared.note.Note.{Note}
use Rattle.hb_base.specs.declared.note.Note.TheVariants as note
use Rattle.hb_base.specs.declared.peer.Peer.{Peer}
use Rattle.hb_base.specs.declared.target.Target.{Target}
use Rattle.hb_conn.specs.Observed.{own_side_open, sides}
use Rattle.hb_conn.specs.declared.found.Found.{Found}
use Rattle.hb_conn.specs.declared.found.Found.TheVariants as found
use Rattle.hb_frames.specs.RawFrame.{RawFrame}
use Rattle.hb_held.specs.Held.{Resources}
use Rattle.hb_hpack.specs.declared.header.HeaderList.{HeaderList}
use Rattle.hb_kept.specs.Payloads.{Began, payloads}
use Rattle.hb_world.specs.declared.entry.Entry.{Entry}
use Rattle.hb_world.specs.declared.entry.Entry.TheVariants as e
use Rattle.hb_inbound.specs.Closes.{course_of, serves}
use Rattle.hb_inbound.specs.Connections.{IsOneHistory}
use Rattle.hb_inbound.specs.Ends.{Life, life, ended}
use Rattle.hb_inbound.specs.Part.{Part, entry, up, looked, accepted, refused, reset, left, done}
use Rattle.hb_inbound.specs.Runs.{counted, end_code, failure_status, target_named}
use Rattle.hb_inbound.specs.Sides.{link_went, peer_of, up_went, AtEach}

-- What is still to be noted of a stream: nothing; the answer to a request, which named this target or none; the end of a tunnel, since
-- 200 was put
pub data Noting : Type 0 where
  no_note : Noting
  answer : Option Target → Noting
  end_of_it : Noting

abbrev pub noting_told : ℕ → Noting → HeaderList → Found → Noting
noting_told s noting headers (found.Opened k end) = if k == s then answer (target_named headers) else noting
noting_told s noting headers told = noting

abbrev pub noting_by : ℕ → Noting → Part → Noting
noting_by s noting (looked points told headers) = noting_told s noting headers told
noting_by s noting (accepted k note) = if k == s then end_of_it else noting
noting_by s noting (refused k status resets note) = if k == s then no_note else noting
noting_by s noting (reset k code note) = if k == s then no_note else noting
noting_by s noting (left k made) = if k == s then no_note else noting
noting_by s noting (done k note) = if k == s then no_note else noting
noting_by s noting part = noting

abbrev pub noting_of : ℕ → List Part → Noting
noting_of s parts = fold (noting_by s) no_note parts

-- the note of an answer: this status, 0 for a reset; who the peer is, and the target that the request named
pub record IsAnswerNote (l : ℕ) (before : List Part) (s status : ℕ) (made : Note) : Type 0 where
  pub peer : Peer
  pub target : Option Target
  pub peer_is : peer_of before ≡ Some peer
  pub due : noting_of s before ≡ answer target
  pub is : made ≡ note.Verdict l s status peer target

-- the note of an end: its cause, the bytes written to the upstream, and those in DATA frames that have begun, a last one whole
pub record IsEndNote (l : ℕ) (before : List Part) (s : ℕ) (why : Cause) (made : Note) : Type 0 where
  pub due : noting_of s before ≡ end_of_it
  pub begun : List RawFrame
  pub began : Began (link_went before) begun
  pub is : made ≡ note.End l s why (counted (length (up_went s before))) (counted (length (payloads s begun)))

-- a tunnel ended while it was pending, or while it lived, and that isn't noted yet
abbrev pub is_failed_so : Life → Noting → Bool
is_failed_so (ended cause) (answer target) = true
is_failed_so how noting = false

abbrev pub is_ended_so : Life → Noting → Bool
is_ended_so (ended cause) end_of_it = true
is_ended_so how noting = false

abbrev pub is_failed : Resources → List Part → ℕ → Bool
is_failed start before s = is_failed_so (life start s before) (noting_of s before)

abbrev pub is_ended : Resources → List Part → ℕ → Bool
is_ended start before s = is_ended_so (life start s before) (noting_of s before)

-- those that were pending are noted first, and of either the lowest stream first
abbrev pub FailedFirst : Resources → List Part → ℕ → Type 0
FailedFirst start before s = (k : ℕ) → k < s → is_failed start before k ≡ false

abbrev pub EndedFirst : Resources → List Part → ℕ → Type 0
EndedFirst start before s =
    ((k : ℕ) → is_failed start before k ≡ false) × ((k : ℕ) → k < s → is_ended start before k ≡ false)

-- a refusal: at an end its turn
abbrev pub NotesRefusal : Resources → ℕ → List Part → ℕ → ℕ → Note → Type 0
NotesRefusal start l before s status made =
    IsAnswerNote l before s status made × (is_failed start before s ≡ true → FailedFirst start before s)

-- a reset of what is no request
abbrev pub NotesReset : Resources → ℕ → List Part → ℕ → Note → Type 0
NotesReset start l before s made = IsAnswerNote l before s 0 made × (is_failed start before s ≡ false)

-- a live tunnel's end
abbrev pub NotesEnd : Resources → ℕ → List Part → ℕ → Cause → Note → Type 0
NotesEnd start l before s why made =
    (life start s before ≡ ended why) × IsEndNote l before s why made × EndedFirst start before s

-- nothing is put at an end: the link doesn't serve any more, or the stream is closed, or this cause puts nothing
abbrev pub PutsNoStatus : List Part → ℕ → Cause → Type 0
PutsNoStatus before s why =
    (failure_status why ≡ None)
    ⊎ ((course_of before ≢ serves) ⊎ ((history : IsOneHistory before) × (own_side_open history.conn s ≡ false)))

abbrev pub PutsNoCode : List Part → ℕ → Cause → Type 0
PutsNoCode before s why =
    (end_code why ≡ None)
    ⊎ ((course_of before ≢ serves)
    ⊎ ((history : IsOneHistory before) × (((sides history.conn s).own || (sides history.conn s).peer) ≡ false)))

-- then a tunnel that was pending has no note, and one that lived its end
abbrev pub NotesSilence : Resources → ℕ → List Part → ℕ → Option Note → Type 0
NotesSilence start l before s None =
    (why : Cause) × (life start s before ≡ ended why) × (is_failed start before s ≡ true) × PutsNoStatus before s why
    × FailedFirst start before s
NotesSilence start l before s (Some made) = (why : Cause) × NotesEnd start l before s why made × PutsNoCode before s why

-- each tunnel that ended is noted before anything more happens to the link or to an upstream; nothing is left to be noted at its close
abbrev pub AreNoted : Resources → List Part → Type 0
AreNoted start before = (s : ℕ) (why : Cause) → life start s before ≡ ended why → noting_of s before ≡ no_note

abbrev pub LinkNoted : Resources → List Part → Entry → Type 0
LinkNoted start before (e.Closed l why) = (s : ℕ) → noting_of s before ≡ no_note
LinkNoted start before call = AreNoted start before

abbrev pub NotesAt : Resources → ℕ → List Part → Part → Type 0
NotesAt start l before (accepted s made) = IsAnswerNote l before s 200 made
NotesAt start l before (refused s status resets made) = NotesRefusal start l before s status made
NotesAt start l before (reset s code made) =
    NotesReset start l before s made ⊎ ((why : Cause) × NotesEnd start l before s why made)
NotesAt start l before (left s made) = NotesSilence start l before s made
NotesAt start l before (done s made) = IsEndNote l before s cause.Done made
NotesAt start l before (looked points told headers) = AreNoted start before
NotesAt start l before (entry e) = LinkNoted start before e
NotesAt start l before (up s e) = AreNoted start before
NotesAt start l before part = ⊤

abbrev pub NoteLaw : Resources → ℕ → List Part → Type 0
NoteLaw start l parts = AtEach (NotesAt start l) parts
