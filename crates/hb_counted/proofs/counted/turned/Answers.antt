use Rattle.hb_counted.proofs.Keeping.{turns}
use Rattle.hb_counted.proofs.counted.turned.Goals as goal

pub returns-clause-kept : goal.returns-clause-kept
returns-clause-kept g c =
    turns g.T.Classed.classes_of c.standing.result.0 c.standing.result.1 c.args.number c.classes_at.result c.args.slots.now
    c.standing.ensures.counts c.standing.ensures.starts c.classes_at.ensures c.ranges.number.fits c.requires.narrow
