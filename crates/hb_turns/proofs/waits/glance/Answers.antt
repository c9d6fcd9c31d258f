use Rattle.std.proofs.Common.{List, refl, subst, arith}
use Rattle.hb_world.specs.declared.entry.Entry.TheVariants as e
use Rattle.hb_world.specs.declared.entry.ReadyItem.{ReadyItem}
use Rattle.hb_world.specs.declared.entry.Woken.TheVariants as woken
use Rattle.hb_turns.specs.Stands.{Stands}
use Rattle.hb_turns.specs.Woken.{Wakes}
use Rattle.hb_turns.specs.Reckons.{Reckons}
use Rattle.hb_turns.specs.declared.served.ServeEnd.TheVariants as ends
use Rattle.hb_turns.proofs.Counting.{glance_on, tick_glanced, wait_ends, lack_finishes, ends_within, each_ok, on_ok}
use Rattle.hb_turns.proofs.Faulting.{counts_one, counts_none}
use Rattle.hb_turns.proofs.Holding.{same, untold, rested}
use Rattle.hb_turns.proofs.Leading.{calls_lead, look_leads, nothing_leads, tick_leads}
use Rattle.hb_turns.proofs.Looking.{look_on, look_ticks, unlooked}
use Rattle.hb_turns.proofs.Waking.{wakes-tracks, glance_comes, wait_ticks}
use Rattle.hb_turns.proofs.waits.glance.Goals as goal

pub returns-in-Woke-clause-keeps : goal.returns-in-Woke-clause-keeps
returns-in-Woke-clause-keeps g c = λ idle had.
    let wakes : Wakes c.args.run.now.records c.wake.new.records c.glance.new.ready =
    subst (λ (xs : List ReadyItem). Wakes c.args.run.now.records c.wake.new.records xs) c.items.ensures.items c.wake.ensures.wakes in
    rested g.N.Node.stands g.N.Node.shown c.args.run.now (record c.args.run.now { records = c.wake.new.records })
    (e.Wait c.glance.new.ready woken.Glanced) (Stands g.N.Node.stands g.N.Node.shown c.args.run.now) (g.W.World.trace c.args.world.now) _ c.in-Woke.ensures.adds refl refl
    (λ notes trace. g.met.N.Node.rests notes c.args.run.now.node trace (e.Wait c.glance.new.ready woken.Glanced))
    (wakes-tracks c.args.run.now.records c.wake.new.records c.glance.new.ready woken.Glanced wakes)
    (c.wake.ensures.watched (g.N.Node.shown c.args.run.now.node))
    (glance_comes g.N.Node.stands g.N.Node.shown c.args.run.now c.glance.new.ready woken.Glanced refl idle) had

pub returns-in-Failed-clause-keeps : goal.returns-in-Failed-clause-keeps
returns-in-Failed-clause-keeps g c = λ idle had.
    let wakes : Wakes c.args.run.now.records c.wake-in-Failed.new.records c.glance.new.ready =
    subst (λ (xs : List ReadyItem). Wakes c.args.run.now.records c.wake-in-Failed.new.records xs) c.items-in-Failed.ensures.items c.wake-in-Failed.ensures.wakes in
    rested g.N.Node.stands g.N.Node.shown c.args.run.now (record c.args.run.now { records = c.wake-in-Failed.new.records })
    (e.Wait c.glance.new.ready woken.GlanceFailed) (Stands g.N.Node.stands g.N.Node.shown c.args.run.now) (g.W.World.trace c.args.world.now) _ c.in-Failed.ensures.adds refl refl
    (λ notes trace. g.met.N.Node.rests notes c.args.run.now.node trace (e.Wait c.glance.new.ready woken.GlanceFailed))
    (wakes-tracks c.args.run.now.records c.wake-in-Failed.new.records c.glance.new.ready woken.GlanceFailed wakes)
    (c.wake-in-Failed.ensures.watched (g.N.Node.shown c.args.run.now.node))
    (glance_comes g.N.Node.stands g.N.Node.shown c.args.run.now c.glance.new.ready woken.GlanceFailed refl idle) had

pub returns-in-Tick-clause-keeps : goal.returns-in-Tick-clause-keeps
returns-in-Tick-clause-keeps g c = λ idle had.
    let wakes : Wakes c.args.run.now.records c.wake-in-Tick.new.records c.glance.new.ready =
    subst (λ (xs : List ReadyItem). Wakes c.args.run.now.records c.wake-in-Tick.new.records xs) c.items-in-Tick.ensures.items
    c.wake-in-Tick.ensures.wakes in
    let ticked = wait_ticks g.N.Node.stands g.N.Node.shown c.args.run.now (record c.args.run.now { records = c.wake-in-Tick.new.records })
    c.glance.new.ready woken.Glanced (g.W.World.trace c.args.world.now) (g.W.World.trace c.glance.new.self) c.in-Tick.ensures.adds refl refl
    (λ notes trace. g.met.N.Node.rests notes c.args.run.now.node trace (e.Wait c.glance.new.ready woken.Glanced))
    (wakes-tracks c.args.run.now.records c.wake-in-Tick.new.records c.glance.new.ready woken.Glanced wakes)
    (c.wake-in-Tick.ensures.watched (g.N.Node.shown c.args.run.now.node))
    (glance_comes g.N.Node.stands g.N.Node.shown c.args.run.now c.glance.new.ready woken.Glanced refl idle) had in
    c.tick.ensures.keeps idle.idle ticked

pub returns-in-NoMemory-clause-keeps : goal.returns-in-NoMemory-clause-keeps
returns-in-NoMemory-clause-keeps g c = λ idle had.
    untold g.N.Node.stands g.N.Node.shown c.args.run.now (g.W.World.trace c.args.world.now) _ c.in-NoMemory.ensures.adds had

pub returns-in-Woke-clause-turned : goal.returns-in-Woke-clause-turned
returns-in-Woke-clause-turned g c = λ words n w.
    glance_on words c.args.ticks.now n w c.glance.new.ready woken.Glanced _ _ c.in-Woke.ensures.adds refl refl

pub returns-in-Tick-clause-turned : goal.returns-in-Tick-clause-turned
returns-in-Tick-clause-turned g c = λ words n w had.
    c.tick.ensures.turned words n w
    (tick_glanced words c.args.ticks.now n w c.glance.new.ready woken.Glanced _ _ c.in-Tick.ensures.adds refl refl had)

pub returns-in-Tick-clause-faults : goal.returns-in-Tick-clause-faults
returns-in-Tick-clause-faults g c =
    counts_none _ _ _ _ c.tick.ensures.stops c.in-Tick.ensures.counts c.in-Tick.ensures.stays c.tick.ensures.stays

pub returns-in-Failed-clause-turned : goal.returns-in-Failed-clause-turned
returns-in-Failed-clause-turned g c = λ words n w had.
    ends_within words ends.WorldFault w _
    (λ within. wait_ends words c.args.ticks.now n w w c.glance.new.ready woken.GlanceFailed ends.WorldFault _ _ c.in-Failed.ensures.adds refl (omega arith) within had)

pub returns-in-NoMemory-clause-turned : goal.returns-in-NoMemory-clause-turned
returns-in-NoMemory-clause-turned g c = λ words n w had.
    ends_within words ends.NoMemory w _
    (λ within. lack_finishes words c.args.ticks.now n w _ within
    (same (Reckons words c.args.ticks.now n w) (Reckons words c.args.ticks.now n w) (g.W.World.trace c.args.world.now) _
    c.in-NoMemory.ensures.adds (λ trace r. r) had))

pub returns-in-Woke-clause-idle : goal.returns-in-Woke-clause-idle
returns-in-Woke-clause-idle g c = λ is idle. idle

pub returns-in-Woke-clause-faults : goal.returns-in-Woke-clause-faults
returns-in-Woke-clause-faults g c = counts_one _ _ _ c.in-Woke.ensures.counts c.in-Woke.ensures.stays

pub returns-in-Failed-clause-idle : goal.returns-in-Failed-clause-idle
returns-in-Failed-clause-idle g c = λ is idle. idle

pub returns-in-Failed-clause-faults : goal.returns-in-Failed-clause-faults
returns-in-Failed-clause-faults g c = counts_one _ _ _ c.in-Failed.ensures.counts c.in-Failed.ensures.stays

pub returns-in-Tick-clause-idle : goal.returns-in-Tick-clause-idle
returns-in-Tick-clause-idle g c = each_ok c.tick.result _ _ (λ end so is idle. so is) c.tick.ensures.idle

pub returns-in-NoMemory-clause-faults : goal.returns-in-NoMemory-clause-faults
returns-in-NoMemory-clause-faults g c = counts_one _ _ _ c.in-NoMemory.ensures.counts c.in-NoMemory.ensures.stays

pub returns-in-Woke-clause-closes : goal.returns-in-Woke-clause-closes
returns-in-Woke-clause-closes g c = λ idle. idle.none_closes

pub returns-in-Failed-clause-closes : goal.returns-in-Failed-clause-closes
returns-in-Failed-clause-closes g c = λ idle. idle.none_closes

pub returns-in-Tick-clause-closes : goal.returns-in-Tick-clause-closes
returns-in-Tick-clause-closes g c = on_ok c.tick.result _ _ (λ so idle. so idle.none_closes) c.tick.ensures.closes

pub returns-in-Woke-clause-looks : goal.returns-in-Woke-clause-looks
returns-in-Woke-clause-looks g c = λ n. look_on n c.glance.new.ready woken.Glanced _ _ c.in-Woke.ensures.adds

pub returns-in-Failed-clause-looks : goal.returns-in-Failed-clause-looks
returns-in-Failed-clause-looks g c = λ n. look_on n c.glance.new.ready woken.GlanceFailed _ _ c.in-Failed.ensures.adds

pub returns-in-Tick-clause-looks : goal.returns-in-Tick-clause-looks
returns-in-Tick-clause-looks g c = λ n had. c.tick.ensures.looks 0 (look_ticks n c.glance.new.ready woken.Glanced _ _ c.in-Tick.ensures.adds had)

pub returns-in-NoMemory-clause-looks : goal.returns-in-NoMemory-clause-looks
returns-in-NoMemory-clause-looks g c = λ n had. unlooked n _ _ c.in-NoMemory.ensures.adds had

pub returns-in-Woke-clause-leads : goal.returns-in-Woke-clause-leads
returns-in-Woke-clause-leads g c = look_leads g.N.Node.stands g.N.Node.shown c.glance.new.ready woken.Glanced _ _ c.in-Woke.ensures.adds

pub returns-in-Failed-clause-leads : goal.returns-in-Failed-clause-leads
returns-in-Failed-clause-leads g c = look_leads g.N.Node.stands g.N.Node.shown c.glance.new.ready woken.GlanceFailed _ _ c.in-Failed.ensures.adds

pub returns-in-Tick-clause-leads : goal.returns-in-Tick-clause-leads
returns-in-Tick-clause-leads g c = λ law.
    calls_lead g.N.Node.stands g.N.Node.shown _ _ c.tick.ensures.adds
    (tick_leads g.N.Node.stands g.N.Node.shown c.glance.new.ready woken.Glanced _ _ c.in-Tick.ensures.adds law)

pub returns-in-NoMemory-clause-leads : goal.returns-in-NoMemory-clause-leads
returns-in-NoMemory-clause-leads g c = nothing_leads g.N.Node.stands g.N.Node.shown _ _ c.in-NoMemory.ensures.adds
