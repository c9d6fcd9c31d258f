use Rattle.hb_counted.proofs.Keeping.{keeps, added_elsewhere}
use Rattle.hb_counted.proofs.counted.Counted.add.Goals as goal

pub invariant_of-self : goal.invariant_of-self
invariant_of-self g c =
    let slots = c.self.inside.slots in
    keeps g.T.Classed.classes_of c.turned-self-inside.result slots c.turned-self-inside.ensures.kept c.args.number
    c.turned-self-inside.ensures.lent c.add.new.self
    (added_elsewhere slots c.add.new.self c.args.number c.args.item c.add.result c.add.ensures.ok c.add.ensures.err)
