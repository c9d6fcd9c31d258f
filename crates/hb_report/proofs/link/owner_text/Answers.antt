use Rattle.std.proofs.Common.{append_assoc, ◌∙◌}
use Rattle.std.proofs.lemmas.Result.{IfOk-weaker}
use Rattle.hb_report.proofs.link.owner_text.Goals as goal

pub returns-in-Upstream : goal.returns-in-Upstream
returns-in-Upstream c = IfOk-weaker c.format.result _ _ (λ s h. h ∙ rw (c.in-Upstream.is) (simp append_assoc)) c.format.ensures.ok
