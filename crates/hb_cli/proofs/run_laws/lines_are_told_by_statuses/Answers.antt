use Rattle.std.proofs.Common.{◌≡◌, ℕ, List, Option, Some, None, Err}
use Rattle.std.specs.Prelude.{IfSome}
use Rattle.hb_audit.specs.Tells.{Answering}
use Rattle.hb_cli.specs.Replaying.{done_in}
use Rattle.hb_cli.specs.declared.stop.Stop.{Stop}
use Rattle.hb_cli.specs.Ending.{Run}
use Rattle.hb_cli.specs.Run.{outcome_by, line_at, stop_line}
use Rattle.hb_cli.specs.Use.{Tells}
use Rattle.hb_cli.proofs.Endings.{by_status}
use Rattle.hb_cli.proofs.run_laws.lines_are_told_by_statuses.Goals as goal

told_at_three : {A : Type 0} {own : Answering A} (r : Run own) (stop : Stop) (left : Option (List ℕ))
    → IfSome left (λ input. outcome_by r.asked (done_in r.left) input ≡ Err stop) → Tells r.err (stop_line stop)
    → IfSome (line_at 3 r.asked (done_in r.left) left) (λ text. Tells r.err text)
told_at_three r stop None o told = tt
told_at_three r stop (Some input) o told = rw o told

pub returns-clause-told : goal.returns-clause-told
returns-clause-told g c = λ r. by_status r
    (λ s. IfSome (line_at s r.asked (done_in r.left) r.input.bytes) (λ text. Tells r.err text))
    (λ a. a.3) (λ a. rw a.1 a.4) (λ a. told_at_three r a.0 r.input.bytes a.3.1 a.5) (λ a. a.3) (λ a. a.3) (λ a. a.3) (λ a. a.4) (λ a. a.2)

pub returns-clause-told_refusal : goal.returns-clause-told_refusal
returns-clause-told_refusal g c = λ r status e three. let a = e.input_refused three in (a.0, a.1, a.3.1, a.5)
