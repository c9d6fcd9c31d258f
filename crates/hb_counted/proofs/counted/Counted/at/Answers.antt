use Rattle.std.proofs.Common.{ap, ◌∙◌}
use Rattle.std.specs.FinMap.{get}
use Rattle.hb_map.proofs.Laws.{written_elsewhere}
use Rattle.hb_counted.proofs.Keeping.{keeps}
use Rattle.hb_counted.proofs.counted.Counted.at.Goals as goal

-- what is written behind the loan is of the number that is lent
pub invariant_of-self-lent : goal.invariant_of-self-lent
invariant_of-self-lent g c = λ lent.
    let slots = c.self.inside.slots in
    let number = c.args.number in
    let kept = keeps g.T.Classed.classes_of c.turned-self-inside.result slots c.turned-self-inside.ensures.kept number
    c.turned-self-inside.ensures.lent in (
      (λ w.
          kept (c.at.follows.lender w) (λ q apart. ap (λ m. get m q) (c.at.follows.holds w) ∙ written_elsewhere slots number w q apart)),
      kept c.at.follows.lender-at-none (λ q apart. ap (λ m. get m q) c.at.follows.holds-at-none),
    )
