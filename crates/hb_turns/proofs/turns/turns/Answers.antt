use Rattle.std.proofs.Common.{◌+◌, Option, IfSome, inl, subst, rules, arith}
use Rattle.hb_turns.specs.Reckons.{TurnedTo}
use Rattle.hb_turns.specs.declared.served.ServeEnd.{ServeEnd}
use Rattle.hb_turns.specs.declared.served.ServeEnd.TheVariants as ends
use Rattle.hb_turns.proofs.Counting.{reckons_adds, lack_finishes, lack_ends, spent_finishes, ends_so, paid_on, paid_all}
use Rattle.hb_turns.proofs.Faulting.{stays_both, stays_on}
use Rattle.hb_turns.proofs.Leading.{calls_lead}
use Rattle.hb_turns.proofs.Looking.{carry_looks, looks_law, none_fits}
use Rattle.hb_turns.proofs.turns.turns.Goals as goal

pub loop-turn-init : goal.loop-turn-init
loop-turn-init g c =
    let carried = c.in_ok-carry.ensures {u = tt} in
    record {
      idle = carried.idle;
      kept = λ had. carried.keeps had;
      reckoned = (0, inl (omega arith), λ words had. reckons_adds words c.args.ticks 0 0 _ _ _ carried.adds had);
      looked = (0, none_fits _, λ had. carry_looks 0 _ _ carried.adds had);
      led = λ stood none. calls_lead g.N.Node.stands g.N.Node.shown _ _ carried.adds none;
      stays = carried.stays;
    }

pub loop-turn-preserved : goal.loop-turn-preserved
loop-turn-preserved g c =
    let at = c.loop-turn.invariant in
    let turned = c.in_ok-end.ensures {u = tt} in
    let made = turned.turned c.loop-turn._turn at.reckoned.0 at.reckoned.1 in
    let seen = turned.looks at.looked.0 at.looked.1 in
    record {
      idle = turned.idle c.in-None.is at.idle;
      kept = λ had. turned.keeps at.idle (at.kept had);
      reckoned = (
        made.0,
        paid_on (c.loop-turn._turn + 1) made.0 c.turn.new.run.records c.in_ok-end.field-0 c.in-None.is made.1,
        λ words had.
            subst (λ (o : Option ServeEnd). IfSome (g.W.World.trace c.turn.new.world)
            (TurnedTo o words c.turn.new.ticks made.0 (c.loop-turn._turn + 1)))
            c.in-None.is (made.2 words c.loop-turn._turn (at.reckoned.2 words had)),
      );
      looked = (seen.0, seen.1, λ had. seen.2 (at.looked.2 had));
      led = λ stood none. turned.leads (at.kept stood) (at.led stood none);
      stays = stays_both _ _ _ at.stays (stays_on _ _ _ c.in-None.is turned.faults);
    }

pub returns-in_err-carry-clause-finishes : goal.returns-in_err-carry-clause-finishes
returns-in_err-carry-clause-finishes g c = λ words turns_are had.
    lack_ends c.from_residual.result words _ (search rules)
    (lack_finishes words c.args.ticks 0 0 _ (omega arith)
    (reckons_adds words c.args.ticks 0 0 _ _ _ (c.in_err-carry.ensures {u = tt}).adds had))

pub returns-in_err-end-clause-finishes : goal.returns-in_err-end-clause-finishes
returns-in_err-end-clause-finishes g c = λ words turns_are had.
    let at = c.loop-turn.invariant in
    lack_ends c.from_residual-in_err-end.result words _ (search rules)
    (ends_so words ends.NoMemory (c.loop-turn._turn + 1) _ (omega (arith, c.loop-turn-test.true, turns_are))
    (((c.in_err-end.ensures {u = tt}).turned c.loop-turn._turn at.reckoned.0 at.reckoned.1).2 words c.loop-turn._turn (at.reckoned.2 words had)))

pub returns-in-Some-clause-finishes : goal.returns-in-Some-clause-finishes
returns-in-Some-clause-finishes g c = λ words turns_are had.
    let at = c.loop-turn.invariant in
    let made = (c.in_ok-end.ensures {u = tt}).turned c.loop-turn._turn at.reckoned.0 at.reckoned.1 in
    ends_so words c.in-Some.end (c.loop-turn._turn + 1) _ (omega (arith, c.loop-turn-test.true, turns_are))
    (subst (λ (o : Option ServeEnd). IfSome (g.W.World.trace c.turn.new.world) (TurnedTo o words c.turn.new.ticks made.0 (c.loop-turn._turn + 1)))
    c.in-Some.is (made.2 words c.loop-turn._turn (at.reckoned.2 words had)))

pub returns-clause-finishes : goal.returns-clause-finishes
returns-clause-finishes g c = λ words turns_are had.
    let at = c.loop-turn.invariant.reckoned in
    let paid = paid_all c.loop-turn._turn at.0 c.loop-turn.run.records at.1 in
    spent_finishes words c.loop-turn.ticks at.0 c.loop-turn._turn _ (omega (arith, c.loop-turn.auto._turn-end, turns_are))
    (omega (arith, paid, c.loop-turn-test.false, turns_are)) (at.2 words had)

pub returns-in-Some-clause-closes : goal.returns-in-Some-clause-closes
returns-in-Some-clause-closes g c = (c.in_ok-end.ensures {u = tt}).closes c.loop-turn.invariant.idle

pub returns-clause-closes : goal.returns-clause-closes
returns-clause-closes g c = c.loop-turn.invariant.idle.none_closes

pub returns-in_err-carry-clause-looks : goal.returns-in_err-carry-clause-looks
returns-in_err-carry-clause-looks g c = λ had. looks_law 0 _ (carry_looks 0 _ _ (c.in_err-carry.ensures {u = tt}).adds had)

pub returns-in_err-end-clause-looks : goal.returns-in_err-end-clause-looks
returns-in_err-end-clause-looks g c = λ had.
    let at = c.loop-turn.invariant.looked in ((c.in_err-end.ensures {u = tt}).looks at.0 at.1).2 (at.2 had)

pub returns-in-Some-clause-looks : goal.returns-in-Some-clause-looks
returns-in-Some-clause-looks g c = λ had.
    let at = c.loop-turn.invariant.looked in
    let seen = (c.in_ok-end.ensures {u = tt}).looks at.0 at.1 in looks_law seen.0 _ (seen.2 (at.2 had))

pub returns-clause-looks : goal.returns-clause-looks
returns-clause-looks g c = λ had. let at = c.loop-turn.invariant.looked in looks_law at.0 _ (at.2 had)

pub returns-in_err-carry-clause-leads : goal.returns-in_err-carry-clause-leads
returns-in_err-carry-clause-leads g c = λ stood none.
    calls_lead g.N.Node.stands g.N.Node.shown _ _ (c.in_err-carry.ensures {u = tt}).adds none

pub returns-in_err-end-clause-leads : goal.returns-in_err-end-clause-leads
returns-in_err-end-clause-leads g c = λ stood none.
    let at = c.loop-turn.invariant in (c.in_err-end.ensures {u = tt}).leads (at.kept stood) (at.led stood none)

pub returns-in-Some-clause-leads : goal.returns-in-Some-clause-leads
returns-in-Some-clause-leads g c = λ stood none.
    let at = c.loop-turn.invariant in (c.in_ok-end.ensures {u = tt}).leads (at.kept stood) (at.led stood none)

pub returns-clause-leads : goal.returns-clause-leads
returns-clause-leads g c = λ stood none. c.loop-turn.invariant.led stood none

pub returns-clause-rests : goal.returns-clause-rests
returns-clause-rests g c = λ spent. c.loop-turn.invariant.idle.idle
