use Rattle.std.proofs.Common.{ap, ◌∙◌}
use Rattle.hb_owed.specs.Paid.{Payment}
use Rattle.hb_conn.proofs.Plain.{pay_keeps}
use Rattle.hb_conn.proofs.plain_encoder.PlainEncoder.pay.Goals as goal

pub invariant_of-self : goal.invariant_of-self
invariant_of-self c = ap (λ (p : Payment). p.writing.spelling) c.pay.ensures ∙ pay_keeps _ ∙ c.self.invariant
