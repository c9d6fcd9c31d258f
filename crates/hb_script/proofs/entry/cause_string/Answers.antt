use Rattle.std.proofs.Common.{append_assoc, ◌∙◌}
use Rattle.std.proofs.lemmas.Result.{IfOk-weaker}
use Rattle.hb_script.proofs.entry.cause_string.Goals as goal

pub returns-in-Some : goal.returns-in-Some
returns-in-Some c = IfOk-weaker c.format.result _ _
    (λ s h. h ∙ rw (c.word-word.ensures, ← c.in-Some.ensures) (simp append_assoc)) c.format.ensures.ok
