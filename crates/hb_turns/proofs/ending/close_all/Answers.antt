use Rattle.hb_turns.proofs.Adding.{closes_none, closes_both}
use Rattle.hb_turns.proofs.Faulting.{stays_none, stays_both}
use Rattle.hb_turns.proofs.ending.close_all.Goals as goal

pub loop-cause-init : goal.loop-cause-init
loop-cause-init g c = record {
  obeys = λ had. had;
  alone = λ had. had;
  closes = closes_none _ _;
  stays = stays_none _;
}

pub loop-cause-preserved : goal.loop-cause-preserved
loop-cause-preserved g c =
    let at = c.loop-cause.invariant in
    let made = c.close_one.ensures in
    record {
      obeys = λ had. made.obeys (at.obeys had);
      alone = λ had. made.alone (at.alone had);
      closes = closes_both _ _ _ _ at.closes made.closes;
      stays = stays_both _ _ _ at.stays made.stays;
    }

pub returns-clause-closes : goal.returns-clause-closes
returns-clause-closes g c = closes_both _ _ _ _ c.loop-cause.invariant.closes c.close_one.ensures.closes
