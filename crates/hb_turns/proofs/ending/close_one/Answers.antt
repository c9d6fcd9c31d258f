use Rattle.std.proofs.Common.{refl}
use Rattle.hb_turns.proofs.Adding.{closes_one}
use Rattle.hb_turns.proofs.Closing.{obeys_closed, alone_closed}
use Rattle.hb_turns.proofs.ending.close_one.Goals as goal

pub returns-in-Some-clause-obeys : goal.returns-in-Some-clause-obeys
returns-in-Some-clause-obeys g c =
    obeys_closed g.N.Node.stands g.N.Node.shown c.args.run.now.records c.forget.new.records c.in-Some.link c.args.cause _ _
    c.close.ensures.adds c.in-Some.ensures.some c.forget.ensures.tracks

pub returns-in-Some-clause-alone : goal.returns-in-Some-clause-alone
returns-in-Some-clause-alone g c =
    alone_closed g.N.Node.stands g.N.Node.shown c.args.run.now _ c.in-Some.link c.args.cause _ _ c.close.ensures.adds
    c.in-Some.ensures.some

pub returns-in-Some-clause-closes : goal.returns-in-Some-clause-closes
returns-in-Some-clause-closes g c = closes_one c.in-Some.link c.args.cause c.args.cause _ _ c.close.ensures.adds refl
