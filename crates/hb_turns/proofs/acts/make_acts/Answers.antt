use Rattle.std.proofs.Common.{false}
use Rattle.hb_turns.proofs.Adding.{adds_none, adds_both}
use Rattle.hb_turns.proofs.Faulting.{stays_none, stays_both}
use Rattle.hb_turns.proofs.Holding.{lacks_here}
use Rattle.hb_turns.proofs.acts.make_acts.Goals as goal

pub loop-act-init : goal.loop-act-init
loop-act-init g c = record {
  kept = λ had. had;
  adds = adds_none _;
  stays = stays_none _;
}

pub loop-act-preserved : goal.loop-act-preserved
loop-act-preserved g c =
    let at = c.loop-act.invariant in
    let made = c.in_ok-make_act.ensures {u = tt} in
    record {
      kept = λ had. made.keeps (at.kept had);
      adds = adds_both false false _ _ _ at.adds made.adds;
      stays = stays_both _ _ _ at.stays made.stays;
    }

pub returns-in_err-make_act-clause-adds : goal.returns-in_err-make_act-clause-adds
returns-in_err-make_act-clause-adds g c =
    adds_both false false _ _ _ c.loop-act.invariant.adds (c.in_err-make_act.ensures {u = tt}).adds

pub returns-clause-keeps : goal.returns-clause-keeps
returns-clause-keeps g c = λ had. lacks_here g.N.Node.stands g.N.Node.shown c.loop-act.run _ (c.loop-act.invariant.kept had)

pub returns-clause-adds : goal.returns-clause-adds
returns-clause-adds g c = c.loop-act.invariant.adds

pub returns-then-not-branch-clause-adds : goal.returns-then-not-branch-clause-adds
returns-then-not-branch-clause-adds g c =
    adds_both false false _ _ _ c.loop-act.invariant.adds (c.in_ok-make_act.ensures {u = tt}).adds
