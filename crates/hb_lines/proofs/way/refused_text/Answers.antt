use Rattle.std.proofs.Common.{append_assoc, ◌∙◌}
use Rattle.std.proofs.lemmas.Result.{IfOk-weaker}
use Rattle.hb_lines.specs.Way.{way_text}
use Rattle.hb_lines.proofs.way.refused_text.Goals as goal

pub returns : goal.returns
unfolding way_text
returns c =
    IfOk-weaker c.format.result _ _ (λ s h. h ∙ simp (append_assoc, c.number-number.ensures, c.text-text.ensures)) c.format.ensures.ok
