-- What the world of a script and the notes are left as: a replay runs over that world, and but for `make` no other command makes a call
-- on it.
use Rattle.std.specs.Prelude.{◌≡◌, ℕ, List, [], Option, Some, IfSome, Result, Ok, Err}
use Rattle.hb_base.specs.declared.or.Or.{Or}
use Rattle.hb_base.specs.declared.or.Or.TheVariants.{Fault, NoMemory as Lacks}
use Rattle.hb_script.specs.Script.{lines}
use Rattle.hb_words.specs.Command.{Command, Replay, replays}
use Rattle.hb_cli.specs.declared.ended.ReplayEnd.{ReplayEnd}
use Rattle.hb_cli.specs.declared.ended.ReplayEnd.TheVariants as ends
use Rattle.hb_cli.specs.Replaying.{RunState, done_in, IsRun, DoneLawfully}
use Rattle.hb_cli.specs.declared.answer.Answer.{Answer}
use Rattle.hb_cli.specs.declared.answer.Answer.TheVariants.{Judged, Told, Left, Replayed}
use Rattle.hb_cli.specs.declared.input.Refused.{Refused}
use Rattle.hb_cli.specs.declared.stop.Stop.{Stop}
use Rattle.hb_cli.specs.declared.stop.Stop.TheVariants.{NoMemory}
use Rattle.hb_cli.specs.Run.{world_fault_line, turns_spent_line}
use Rattle.hb_cli.specs.Use.{Use, Tells}

-- the lines of this input, where it is told, were run over, and the run ended so
abbrev pub RunsTo : Replay → Option (List ℕ) → RunState → ReplayEnd → Type 0
RunsTo r input world end = IfSome input (λ left. lines left ≡ Ok world.script.lines) × IsRun r end (done_in world)

-- what an answer of a replay says of its script's world
abbrev pub AnswersFrom : Replay → Option (List ℕ) → RunState → Answer → Type 0
AnswersFrom r input world (Replayed told) = RunsTo r input world told.end
AnswersFrom r input world _ = ⊥

-- what a replay leaves: where it has no answer, want of memory aside, nothing was done
abbrev pub Leaves : Replay → Option (List ℕ) → RunState → Result Answer Stop → Type 0
Leaves r input world (Ok a) = AnswersFrom r input world a
Leaves r input world (Err NoMemory) = DoneLawfully r world.script.trace
Leaves r input world (Err _) = world.script.trace ≡ []

-- the same of an input that is there, and of a command by it
abbrev pub LeavesOf : Replay → List ℕ → RunState → Result Answer (Or Refused) → Type 0
LeavesOf r input world (Ok a) = AnswersFrom r (Some input) world a
LeavesOf r input world (Err (Fault refusal)) = world.script.trace ≡ []
LeavesOf r input world (Err Lacks) = DoneLawfully r world.script.trace

abbrev pub CommandLeaves : Command → List ℕ → RunState → RunState → Result Answer (Or Refused) → Type 0
CommandLeaves (replays r) input before after result = LeavesOf r input after result
CommandLeaves _ input before after result = after ≡ before

abbrev pub LeavesBy : Command → Option (List ℕ) → RunState → RunState → Result Answer Stop → Type 0
LeavesBy (replays r) input before after result = Leaves r input after result
LeavesBy _ input before after result = after ≡ before

-- the status of a run that ended so, and its line
abbrev pub EndsRun : ReplayEnd → Use → ℕ → Type 0
EndsRun ends.Stopped err status = (status ≡ 0) × Tells err []
EndsRun ends.WorldFault err status = (status ≡ 4) × Tells err world_fault_line
EndsRun ends.TurnsSpent err status = (status ≡ 5) × Tells err turns_spent_line

-- how the run of the proxy ended behind an answer; where there was none, as if by a stop
abbrev pub end_of : Answer → ReplayEnd
end_of (Judged judged) = ends.Stopped
end_of (Told text) = ends.Stopped
end_of (Left left fields) = ends.Stopped
end_of (Replayed told) = told.end
