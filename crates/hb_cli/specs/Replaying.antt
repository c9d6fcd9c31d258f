-- A run of the proxy over a script, as its trace and its notes tell it.
use Rattle.std.specs.Prelude.{⊤, ◌≡◌, ◌⊎◌, ℕ, false, List, [], Option, None, Some, Result, Ok, Err}
use Rattle.hb_audit.specs.Tells.{Answering}
use Rattle.hb_base.specs.declared.note.Note.{Note}
use Rattle.hb_base.specs.declared.or.Or.{Or}
use Rattle.hb_base.specs.declared.or.Or.TheVariants.{Fault, NoMemory}
use Rattle.hb_world.specs.declared.entry.Entry.{Entry}
use Rattle.hb_world.specs.declared.line.Line.{Line}
use Rattle.hb_world.specs.WorldState.{ScriptState}
use Rattle.hb_script.specs.declared.fault.ScriptFault.{ScriptFault}
use Rattle.hb_script.specs.Script.{lines}
use Rattle.hb_turns.specs.declared.served.Served.{Served}
use Rattle.hb_turns.specs.Ends.{was_wanting}
use Rattle.hb_turns.specs.Notes.{held}
use Rattle.hb_turns.specs.Totals.{sums_of, totals_of}
use Rattle.hb_reason.specs.Reasons.{Hear}
use Rattle.hb_serve.specs.Served.{IsServed, HasNotes}
use Rattle.hb_serve.specs.declared.words.ServeWords.{ServeWords}
use Rattle.hb_report.specs.Report.{report}
use Rattle.hb_report.specs.declared.flags.Flags.{Flags}
use Rattle.hb_words.specs.Command.{Replay}
use Rattle.hb_cli.specs.Asked.{words_of}
use Rattle.hb_cli.specs.Ended.{ended_as}
use Rattle.hb_cli.specs.declared.ended.ReplayEnd.{ReplayEnd}
use Rattle.hb_cli.specs.declared.replaying.Replayed.{Replayed}

-- what was done: the trace, and the notes of it
pub record Done : Type 0 where
  pub trace : List Entry
  pub notes : List Note

abbrev pub done_with : List Entry → List Note → Done
done_with trace notes = record { trace = trace; notes = notes }

abbrev pub done_by : List Entry → Option (List Note) → Done
done_by trace keep = done_with trace (held keep)

-- the script's world, and the notes that are kept
pub record RunState : Type 0 where
  pub script : ScriptState
  pub keep : Option (List Note)

abbrev pub run_state : ScriptState → Option (List Note) → RunState
run_state script keep = record { script = script; keep = keep }

-- what was done in it
abbrev pub done_in : RunState → Done
done_in s = done_by s.script.trace s.keep

-- A run that is asked for so was served, did this and ended so, and memory never lacked: these are all its notes, and the totals are its
-- own
pub record RunsAs (words : ServeWords) (told : Served) (keep : Option (List Note)) (end : ReplayEnd) (done : Done) : Type 0 where
  pub served : IsServed words told keep done.trace
  pub ends : ended_as told ≡ Some end
  pub has_notes : HasNotes words.config done.notes done.trace
  pub totals : told.totals ≡ totals_of done.trace done.notes
  pub not_wanting : was_wanting done.trace ≡ false
  pub not_lacking : (sums_of done.notes).lacked ≡ false

-- so a replay that keeps its notes
abbrev pub IsRun : Replay → ReplayEnd → Done → Type 0
IsRun r end done = (told : Served) × RunsAs (words_of r.run None) told (Some done.notes) end done

-- which lines its report has, and the report
abbrev pub flags_of : Replay → Flags
flags_of r = record { trace = r.trace; brief = r.brief }

abbrev pub report_of : Replay → Done → List ℕ
report_of r done = report (flags_of r) done.trace done.notes (totals_of done.trace done.notes)

-- nothing was done, or a run was served, however it ended
abbrev pub DoneLawfully : Replay → List Entry → Type 0
DoneLawfully r trace = (trace ≡ []) ⊎ ((told : Served) × (keep : Option (List Note)) × IsServed (words_of r.run None) told keep trace)

-- What a replay of these lines leaves: they are the world's, and its trace and the notes are those of the run that is told
abbrev pub ReplaysLines : {E : Type 0} → Replay → List Line → RunState → Result Replayed E → Type 0
ReplaysLines r script left (Ok told) =
    (left.script.lines ≡ script) × IsRun r told.end (done_in left) × (told.report.items ≡ report_of r (done_in left))
ReplaysLines r script left (Err lacks) = DoneLawfully r left.script.trace

-- What a replay of this text leaves: the world's lines are the text's, and its trace and the notes are those of the run that is told
abbrev pub Replays : Replay → List ℕ → RunState → Result Replayed (Or ScriptFault) → Type 0
Replays r text left (Ok told) =
    (lines text ≡ Ok left.script.lines) × IsRun r told.end (done_in left) × (told.report.items ≡ report_of r (done_in left))
Replays r text left (Err (Fault fault)) = (lines text ≡ Err fault) × (left.script.trace ≡ [])
Replays r text left (Err NoMemory) = DoneLawfully r left.script.trace

-- What a replay that did this tells to audits, which are the second ones behind it: all its notes, with their reasons; where a row is no
-- line, none
abbrev pub TellsNotes : {A : Type 0} → Answering A → Replay → List A → List A → Done → Result Replayed (Or ScriptFault) → Type 0
TellsNotes own r before after done (Ok told) = Hear own (words_of r.run None).config done.trace before after done.notes
TellsNotes own r before after done (Err (Fault fault)) = after ≡ before
TellsNotes own r before after done (Err NoMemory) = ⊤
