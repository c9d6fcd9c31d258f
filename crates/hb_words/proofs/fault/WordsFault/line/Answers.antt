use Rattle.std.proofs.Common.{append_assoc, ◌∙◌}
use Rattle.std.proofs.lemmas.Result.{IfOk-weaker}
use Rattle.hb_words.proofs.fault.WordsFault.line.Goals as goal

pub returns : goal.returns
returns c =
    IfOk-weaker c.format.result _ _ (λ s h. h ∙ rw (c.in_ok-text.ensures, c.in_ok-help.ensures) (simp append_assoc)) c.format.ensures.ok
