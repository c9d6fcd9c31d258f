use Rattle.std.proofs.Common.{append_assoc, ◌∙◌}
use Rattle.std.proofs.lemmas.Result.{IfOk-weaker}
use Rattle.hb_words.proofs.fault.part_text.Goals as goal

pub returns : goal.returns
returns c =
    IfOk-weaker c.format.result _ _ (λ s h. h ∙ rw (c.dashes-dashes.ensures, c.id-name.ensures) (simp append_assoc)) c.format.ensures.ok
