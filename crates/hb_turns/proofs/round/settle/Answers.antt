use Rattle.hb_ready.specs.Registry.{kept}
use Rattle.hb_turns.proofs.Watching.{watched-rotated, watched-popped}
use Rattle.hb_turns.proofs.Holding.{relisted}
use Rattle.hb_turns.proofs.round.settle.Goals as goal

pub returns-then-is_worth-clause-keeps : goal.returns-then-is_worth-clause-keeps
returns-then-is_worth-clause-keeps g c =
    relisted g.N.Node.stands g.N.Node.shown c.args.run.now c.rotate.new.self c.rotate.ensures.links
    (watched-rotated (kept c.args.run.now.records.links) (kept c.rotate.new.self) (g.N.Node.shown c.args.run.now.node)
    c.rotate.ensures.links c.rotate.ensures.listed)

pub returns-else-is_worth-clause-keeps : goal.returns-else-is_worth-clause-keeps
returns-else-is_worth-clause-keeps g c =
    relisted g.N.Node.stands g.N.Node.shown c.args.run.now c.pop.new.self c.pop.ensures.links
    (watched-popped (kept c.args.run.now.records.links) (kept c.pop.new.self) (g.N.Node.shown c.args.run.now.node) c.in-Some.link
    c.pop.ensures.links c.in-Some.ensures.some c.pop.ensures.listed (c.is_worth.ensures.rests c.if-is_worth.false))
