use Rattle.std.proofs.Common.{ap, sym, ◌∙◌}
use Rattle.hb_gateway.specs.Gateway as m
use Rattle.hb_gate.proofs.gate.Gate.carries.Goals as goal

pub returns : goal.returns
returns c = λ x shows. c.carries.ensures ∙ ap m.carries (sym shows.phase)
