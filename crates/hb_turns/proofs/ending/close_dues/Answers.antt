use Rattle.std.proofs.Common.{rules}
use Rattle.hb_turns.proofs.Adding.{closes_none, closes_both}
use Rattle.hb_turns.proofs.Faulting.{stays_none, stays_both}
use Rattle.hb_turns.proofs.Closing.{stands_alone}
use Rattle.hb_turns.proofs.ending.close_dues.Goals as goal

pub loop-close-init : goal.loop-close-init
loop-close-init g c = record {
  ends_for = c.requires;
  obeys = λ had. had;
  keeps = λ had. had;
  closes = closes_none _ _;
  stays = stays_none _;
}

pub loop-close-preserved : goal.loop-close-preserved
loop-close-preserved g c =
    let at = c.loop-close.invariant in
    let made = c.close_due.ensures in
    record {
      ends_for = made.ends_for;
      obeys = λ had. made.obeys (at.obeys had);
      keeps = λ had. made.keeps (at.keeps had);
      closes = closes_both _ _ _ _ at.closes made.closes;
      stays = stays_both _ _ _ at.stays made.stays;
    }

pub returns-then-not-close_due-clause-closes : goal.returns-then-not-close_due-clause-closes
returns-then-not-close_due-clause-closes g c = closes_both _ _ _ _ c.loop-close.invariant.closes c.close_due.ensures.closes

pub returns-then-not-close_due-clause-alone : goal.returns-then-not-close_due-clause-alone
returns-then-not-close_due-clause-alone g c = λ had.
    stands_alone g.N.Node.stands g.N.Node.shown c.close_due.new.run _ (c.close_due.ensures.none (search rules))
    (c.close_due.ensures.keeps (c.loop-close.invariant.keeps had))
