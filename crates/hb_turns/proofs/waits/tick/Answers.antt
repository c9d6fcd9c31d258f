use Rattle.std.proofs.Common.{ℕ, Option, IfSome, rules, sym, subst}
use Rattle.hb_turns.specs.Reckons.{Reckons, one_less}
use Rattle.hb_turns.specs.Stands.{Stands}
use Rattle.hb_turns.specs.Woken.{Ticked}
use Rattle.hb_turns.specs.declared.served.ServeEnd.TheVariants as ends
use Rattle.hb_turns.proofs.Counting.{tick_on, tick_ends, lack_finishes, ends_within, reckons_adds, lack_turns}
use Rattle.hb_turns.proofs.Holding.{each, left}
use Rattle.hb_turns.proofs.Looking.{carry_looks, lacked_looks}
use Rattle.hb_turns.proofs.Waking.{tick_told}
use Rattle.hb_turns.proofs.Adding.{adds_none}
use Rattle.hb_turns.proofs.waits.tick.Goals as goal

pub returns-then-is_last-clause-keeps : goal.returns-then-is_last-clause-keeps
returns-then-is_last-clause-keeps g c = λ idle had.
    each (Ticked g.N.Node.stands g.N.Node.shown c.args.run.now) (Stands g.N.Node.stands g.N.Node.shown (record c.args.run.now { node = c.tick.new.self }))
    (g.W.World.trace c.args.world.now)
    (tick_told g.N.Node.stands g.N.Node.shown c.args.run.now c.tick.new.self c.tick.ensures.tells idle) had

pub returns-clause-keeps : goal.returns-clause-keeps
returns-clause-keeps g c = λ idle had.
    (c.in_ok-carry.ensures {u = tt}).keeps
    (each (Ticked g.N.Node.stands g.N.Node.shown c.args.run.now) (Stands g.N.Node.stands g.N.Node.shown (record c.args.run.now { node = c.tick.new.self }))
    (g.W.World.trace c.args.world.now)
    (tick_told g.N.Node.stands g.N.Node.shown c.args.run.now c.tick.new.self c.tick.ensures.tells idle) had)

pub returns-in_err-carry-clause-keeps : goal.returns-in_err-carry-clause-keeps
returns-in_err-carry-clause-keeps g c = λ idle had.
    left g.N.Node.stands g.N.Node.shown c.from_residual.result c.carry.new.run _ (search rules)
    ((c.in_err-carry.ensures {u = tt}).keeps
    (each (Ticked g.N.Node.stands g.N.Node.shown c.args.run.now) (Stands g.N.Node.stands g.N.Node.shown (record c.args.run.now { node = c.tick.new.self }))
    (g.W.World.trace c.args.world.now)
    (tick_told g.N.Node.stands g.N.Node.shown c.args.run.now c.tick.new.self c.tick.ensures.tells idle) had))

pub returns-then-is_last-clause-turned : goal.returns-then-is_last-clause-turned
returns-then-is_last-clause-turned g c = λ words n w had.
    ends_within words ends.Stopped w _ (λ within. tick_ends words c.args.ticks.now n w _ (search rules) within had)

pub returns-clause-turned : goal.returns-clause-turned
returns-clause-turned g c = λ words n w had.
    subst (λ (t : Option ℕ). IfSome (g.W.World.trace c.carry.new.world) (Reckons words t n w)) (sym c.is_last.ensures.left)
    (reckons_adds words (one_less c.args.ticks.now) n w _ _ _ (c.in_ok-carry.ensures {u = tt}).adds
    (tick_on words c.args.ticks.now n w _ (search rules) had))

pub returns-in_err-carry-clause-turned : goal.returns-in_err-carry-clause-turned
returns-in_err-carry-clause-turned g c = λ words n w had.
    lack_turns c.from_residual.result words c.is_last.new.ticks n w _ (search rules)
    (ends_within words ends.NoMemory w _
    (λ within. lack_finishes words (one_less c.args.ticks.now) n w _ within
    (reckons_adds words (one_less c.args.ticks.now) n w _ _ _ (c.in_err-carry.ensures {u = tt}).adds
    (tick_on words c.args.ticks.now n w _ (search rules) had))))

pub returns-clause-looks : goal.returns-clause-looks
returns-clause-looks g c = λ n had. carry_looks n _ _ (c.in_ok-carry.ensures {u = tt}).adds had

pub returns-in_err-carry-clause-looks : goal.returns-in_err-carry-clause-looks
returns-in_err-carry-clause-looks g c = λ n had.
    lacked_looks c.from_residual.result n _ (search rules) (carry_looks n _ _ (c.in_err-carry.ensures {u = tt}).adds had)

pub returns-then-is_last-clause-adds : goal.returns-then-is_last-clause-adds
returns-then-is_last-clause-adds g c = adds_none _
