use Rattle.std.proofs.Common.{ap, ◌∙◌}
use Rattle.std.specs.FinMap.{get}
use Rattle.hb_map.proofs.Laws.{removed_elsewhere}
use Rattle.hb_counted.proofs.Keeping.{keeps}
use Rattle.hb_counted.proofs.counted.Counted.remove.Goals as goal

pub invariant_of-self : goal.invariant_of-self
invariant_of-self g c =
    let slots = c.self.inside.slots in
    keeps g.T.Classed.classes_of c.turned-self-inside.result slots c.turned-self-inside.ensures.kept c.args.number
    c.turned-self-inside.ensures.lent c.remove.new.self
    (λ q apart. ap (λ m. get m q) c.remove.ensures.rest ∙ removed_elsewhere slots c.args.number q apart)
