-- What audits hear of a command: all notes of a replay that has an answer, and of no other command but `serve` and `make` any.
use Rattle.std.specs.Prelude.{⊤, ◌≡◌, None, Result, Ok, Err}
use Rattle.hb_audit.specs.Tells.{Answering}
use Rattle.hb_base.specs.declared.or.Or.{Or}
use Rattle.hb_base.specs.declared.or.Or.TheVariants.{Fault, NoMemory as Lacks}
use Rattle.hb_reason.specs.Reasons.{Hear}
use Rattle.hb_serve.specs.Served.{Heard}
use Rattle.hb_words.specs.Command.{Command, Replay, replays}
use Rattle.hb_cli.specs.Asked.{words_of}
use Rattle.hb_cli.specs.Replaying.{Done}
use Rattle.hb_cli.specs.declared.answer.Answer.{Answer}
use Rattle.hb_cli.specs.declared.input.Refused.{Refused}
use Rattle.hb_cli.specs.declared.stop.Stop.{Stop}
use Rattle.hb_cli.specs.declared.stop.Stop.TheVariants.{NoMemory}

-- the notes of what was done were told to the audits, one after the other, each with its reason; each audit gave answers of its own, and
-- those are left that kept each; or none was told
abbrev pub HearsAll : {A : Type 0} {own : Answering A} → Replay → Heard own → Done → Type 0
HearsAll {A} {own} r h done = Hear own (words_of r.run None).config done.trace h.before h.after done.notes

abbrev pub HearsNone : {A : Type 0} {own : Answering A} → Heard own → Type 0
HearsNone h = h.after ≡ h.before

-- of a command by an input that is there, where this was done
abbrev pub HearsOf : {A : Type 0} {own : Answering A} → Command → Heard own → Done → Result Answer (Or Refused) → Type 0
HearsOf (replays r) h done (Ok a) = HearsAll r h done
HearsOf (replays r) h done (Err (Fault refusal)) = HearsNone h
HearsOf (replays r) h done (Err Lacks) = ⊤
HearsOf _ h done result = HearsNone h

-- of a command, behind its input
abbrev pub HearsBy : {A : Type 0} {own : Answering A} → Command → Heard own → Done → Result Answer Stop → Type 0
HearsBy (replays r) h done (Ok a) = HearsAll r h done
HearsBy (replays r) h done (Err NoMemory) = ⊤
HearsBy (replays r) h done (Err _) = HearsNone h
HearsBy _ h done result = HearsNone h
