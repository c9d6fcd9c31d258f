-- What an answer prints.
use Rattle.std.specs.Prelude.{⊤, ℕ, List, Result, Ok, Err}
use Rattle.hb_base.specs.declared.or.Or.{Or}
use Rattle.hb_words.specs.Command.{Command, checks, routes, shows, replays}
use Rattle.hb_cli.specs.declared.input.Refused.{Refused}
use Rattle.hb_cli.specs.declared.stop.Stop.{Stop}
use Rattle.hb_cli.specs.declared.answer.Answer.{Answer}
use Rattle.hb_cli.specs.declared.answer.Answer.TheVariants.{Judged as IsJudgement, Told as IsTold, Left as IsLeft, Replayed as IsReplayed}
use Rattle.hb_cli.specs.Judge.{answer_line}
use Rattle.hb_cli.specs.Run.{shown}

abbrev pub answer_text : Answer → List ℕ
answer_text (IsJudgement judged) = answer_line judged
answer_text (IsTold text) = text.items
answer_text (IsLeft left fields) = shown fields left
answer_text (IsReplayed told) = told.report.items

-- it is printed without memory
abbrev pub IsMade : Answer → Type 0
IsMade (IsJudgement judged) = ⊤
IsMade (IsTold text) = ⊤
IsMade (IsLeft left fields) = ⊥
IsMade (IsReplayed told) = ⊤

abbrev pub texts : Result Answer (Or Refused) → Result (List ℕ) (Or Refused)
texts (Ok a) = Ok (answer_text a)
texts (Err why) = Err why

abbrev pub found_texts : Result Answer Stop → Result (List ℕ) Stop
found_texts (Ok a) = Ok (answer_text a)
found_texts (Err stop) = Err stop

-- it is an answer of this command
abbrev pub Suits : Command → Answer → Type 0
Suits (checks q) (IsJudgement judged) = ⊤
Suits (checks q) (IsTold text) = ⊤
Suits (routes r) (IsTold text) = ⊤
Suits (shows s) (IsLeft left fields) = ⊤
Suits (replays r) (IsReplayed told) = ⊤
Suits _ _ = ⊥
