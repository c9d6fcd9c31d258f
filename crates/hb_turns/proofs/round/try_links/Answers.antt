use Rattle.std.proofs.Common.{true, arith, rules}
use Rattle.hb_turns.proofs.Faulting.{stays_none, stays_both}
use Rattle.hb_turns.proofs.Resting.{dropped_none, dropped_more, dropped_so}
use Rattle.hb_turns.proofs.Trying.{tried_none, tried_both, tried_as, tried_err, err_some, err_made, some_more, none_once, once_few}
use Rattle.hb_turns.proofs.round.try_links.Goals as goal

pub loop-try-init : goal.loop-try-init
loop-try-init g c = record {
  tried = tried_none g.N.Node.stands g.N.Node.shown 0 c.args.run.now (g.W.World.trace c.args.world.now);
  few = omega arith;
  rests = λ still. dropped_none _;
  stays = stays_none _;
}

pub loop-try-preserved : goal.loop-try-preserved
loop-try-preserved g c =
    let at = c.loop-try.invariant in
    let here = c.in_ok-moved.ensures {u = tt} in
    let few = at.few in
    let once = c.once-made.ensures in
    let least = once_few c.in_ok-moved.moved in
    record {
      tried = tried_as g.N.Node.stands g.N.Node.shown _ _ _ _ _ _ _ (some_more c.loop-try.made c.once-made.result c.in_ok-moved.moved once)
          (omega (arith, once))
          (tried_both g.N.Node.stands g.N.Node.shown _ _ _ _ _ _ true at.tried here.tried);
      few = (let other = c.if-made-eq-MOST_TRIES.false in omega (arith, few, once, least, other));
      rests = λ still. dropped_more _ _ _ _ (at.rests (omega (arith, still)))
          (here.rests (none_once c.in_ok-moved.moved (omega (arith, still, once))));
      stays = stays_both _ _ _ at.stays here.stays;
    }

pub returns-in_err-moved-clause-tried : goal.returns-in_err-moved-clause-tried
returns-in_err-moved-clause-tried g c =
    let at = c.loop-try.invariant in
    let r = c.from_residual.result in
    let few = at.few in
    let most = err_made 64 r (search rules) in
    tried_err g.N.Node.stands g.N.Node.shown _ _ _ _ _ _ _ _ _ r (search rules) (err_some r (search rules)) (omega (arith, few, most))
    at.tried (c.in_err-moved.ensures {u = tt}).tried

pub returns-then-made-eq-MOST_TRIES-clause-tried : goal.returns-then-made-eq-MOST_TRIES-clause-tried
returns-then-made-eq-MOST_TRIES-clause-tried g c =
    let at = c.loop-try.invariant in
    let once = c.once-made.ensures in
    tried_as g.N.Node.stands g.N.Node.shown _ _ _ _ _ _ _ (some_more c.loop-try.made c.once-made.result c.in_ok-moved.moved once)
    (omega (arith, once))
    (tried_both g.N.Node.stands g.N.Node.shown _ _ _ _ _ _ true at.tried (c.in_ok-moved.ensures {u = tt}).tried)

pub returns-clause-rests : goal.returns-clause-rests
returns-clause-rests g c = λ still.
    dropped_so _ _ _ _ (omega (arith, c.loop-try-test.false, c.loop-try.auto._try-end, c.len-try-end.ensures)) (c.loop-try.invariant.rests still)
