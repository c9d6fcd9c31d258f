use Rattle.std.proofs.Common.{true, false, Ok, rules}
use Rattle.std.specs.declared.alloc.AllocError.{AllocError}
use Rattle.hb_turns.proofs.Adding.{adds_then, adds_moved, adds_lacked}
use Rattle.hb_turns.proofs.Holding.{left}
use Rattle.hb_turns.proofs.Leading.{call_same, call_then, call_lacked}
use Rattle.hb_turns.proofs.round.try_call.Goals as goal

pub returns-in_err-moved-clause-tried : goal.returns-in_err-moved-clause-tried
returns-in_err-moved-clause-tried g c =
    let made = c.in_err-moved.ensures {u = tt} in
    record {
      keeps = λ idle had. left g.N.Node.stands g.N.Node.shown c.from_residual.result c.make_call.new.run _ (search rules) (made.keeps idle had);
      idle = search rules;
      adds = adds_lacked c.args.call _ c.from_residual.result _ _ _ (search rules) made.adds;
    }

pub returns-in_err-carry-clause-tried : goal.returns-in_err-carry-clause-tried
returns-in_err-carry-clause-tried g c =
    let made = c.in_ok-moved.ensures {u = tt} in
    let carried = c.in_err-carry.ensures {u = tt} in
    record {
      keeps = λ idle had. left g.N.Node.stands g.N.Node.shown c.from_residual-in_err-carry.result c.carry.new.run _ (search rules)
          (carried.keeps (made.keeps idle had));
      idle = search rules;
      adds = adds_lacked c.args.call _ c.from_residual-in_err-carry.result true _ _ (search rules)
          (adds_then true _ _ _ (adds_moved AllocError c.args.call c.in_ok-moved.moved _ _ c.if-not-moved.false made.adds) carried.adds);
    }

pub returns-clause-tried : goal.returns-clause-tried
returns-clause-tried g c =
    let made = c.in_ok-moved.ensures {u = tt} in
    let carried = c.in_ok-carry.ensures {u = tt} in
    record {
      keeps = λ idle had. carried.keeps (made.keeps idle had);
      idle = λ idle. carried.idle;
      adds = adds_then true _ _ _ (adds_moved AllocError c.args.call c.in_ok-moved.moved _ _ c.if-not-moved.false made.adds) carried.adds;
    }

pub returns-then-not-moved-clause-leads : goal.returns-then-not-moved-clause-leads
returns-then-not-moved-clause-leads g c = call_same g.N.Node.shown c.args.run.now c.args.call c.in_ok-moved.moved false _ _ (c.in_ok-moved.ensures {u = tt}).leads

pub returns-in_err-moved-clause-leads : goal.returns-in_err-moved-clause-leads
returns-in_err-moved-clause-leads g c =
    call_lacked g.N.Node.shown c.args.run.now c.args.call _ c.from_residual.result _ _ (search rules) (c.in_err-moved.ensures {u = tt}).leads

pub returns-in_err-carry-clause-leads : goal.returns-in_err-carry-clause-leads
returns-in_err-carry-clause-leads g c =
    call_then g.N.Node.shown c.args.run.now c.args.call c.in_ok-moved.moved c.from_residual-in_err-carry.result _ _ _ (c.in_ok-moved.ensures {u = tt}).leads
    (c.in_err-carry.ensures {u = tt}).adds

pub returns-clause-leads : goal.returns-clause-leads
returns-clause-leads g c =
    call_then g.N.Node.shown c.args.run.now c.args.call c.in_ok-moved.moved (Ok true) _ _ _ (c.in_ok-moved.ensures {u = tt}).leads (c.in_ok-carry.ensures {u = tt}).adds
