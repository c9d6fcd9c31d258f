use Rattle.std.proofs.Common.{◌∙◌}
use Rattle.hb_serve.proofs.asked.AskedNode.next_stirred.Goals as goal

pub returns-clause-hears : goal.returns-clause-hears
returns-clause-hears g c = λ taken trace stands.
    let heard = c.next_stirred.ensures.hears taken trace stands.0 in
    ((heard.0, (c.next_stirred.ensures.config ∙ stands.1.0, stands.1.1)), heard.1)
