-- What an end makes of a link, and what is noted of it. No public clause cites this file.
use Rattle.std.specs.Prelude.{ℕ, Option, Some, None, if◌then◌else◌}
use Rattle.hb_base.specs.declared.cause.Cause.{Cause}
use Rattle.hb_base.specs.declared.note.Note.{Note}
use Rattle.hb_base.specs.declared.note.Note.TheVariants as note
use Rattle.hb_captured.specs.Answer.{Routing}
use Rattle.hb_captured.specs.Captured.{Captured, Stage, due, opening, live, counts_for, ends_by, is_raw, left_behind, left_now, name_left, ends_for, named}
use Rattle.hb_captured.specs.Counts.{recounted}
use Rattle.hb_captured.specs.Runs.{verdict_note, note_of, failure_status}

-- it ends, and that is noted at once
abbrev pub ended_now : Cause → Captured → Captured
ended_now cause x = left_now (ends_for cause x)

-- what that leaves of the identity that was to be noted, the stage aside
abbrev pub name_at : Cause → Captured → Captured
name_at cause x = record x { identity = name_left (ends_by cause x.stage) x.identity }

-- it leaves its stream, where it has one, behind so many bytes
abbrev pub unstreamed : ℕ → Captured → Captured
unstreamed begun x = if is_raw x then x else left_behind begun x

-- it counts for its endpoint no longer
abbrev pub uncounted : Captured → Routing → Routing
uncounted x routing = record routing { opens = recounted (counts_for x) None routing.opens }

-- its notes, of counts that are told already
abbrev pub verdict_at : (l status : ℕ) → Captured → Note
verdict_at l status x = verdict_note l status (named x) x.target

abbrev pub end_at : ℕ → Cause → Captured → Note
end_at l cause x = note.End l 0 cause x.went_up x.went_down

-- what is noted of an end at a stage
abbrev pub note_at : ℕ → Cause → Captured → Stage → Option Note
note_at l cause x due = note_of l x (failure_status cause)
note_at l cause x opening = note_of l x (failure_status cause)
note_at l cause x live = Some (end_at l cause x)
note_at l cause x _ = None
