use Rattle.std.proofs.Common.{refl, rules}
use Rattle.hb_world.specs.declared.entry.Entry.TheVariants as e
use Rattle.hb_world.specs.declared.entry.Way.TheVariants as way
use Rattle.hb_ready.specs.Registry.{kept}
use Rattle.hb_turns.specs.May.{MayFinish}
use Rattle.hb_turns.specs.Stands.{Stands}
use Rattle.hb_turns.proofs.Holding.{moved, lacked, left, untold, unmoved, rested}
use Rattle.hb_turns.proofs.Watching.{watched-finish, watched-opened}
use Rattle.hb_turns.proofs.Ways.{opened_comes, finish_balks, finish_breaks}
use Rattle.hb_turns.proofs.link.finish.Goals as goal

pub returns-in_ok-opened-in-Opened-clause-keeps : goal.returns-in_ok-opened-in-Opened-clause-keeps
returns-in_ok-opened-in-Opened-clause-keeps g c = λ idle had.
    let may : MayFinish ((kept c.args.run.now.records.links).links c.args.link) =
    c.may_finish.ensures.may c.if-not-may_finish.false in
    moved g.N.Node.stands g.N.Node.shown c.args.run.now
    (record c.args.run.now { node = c.opened-in-Opened.new.self; records = record c.args.run.now.records { links = c.opened.new.self } })
    (e.Opened c.args.link) (Stands g.N.Node.stands g.N.Node.shown c.args.run.now) (g.W.World.trace c.args.world.now) _ c.in-Opened.ensures.adds refl
    (c.in_ok-opened-in-Opened.ensures {u = tt}) (record { links = c.opened.ensures.follows; doors = λ d. refl; births_are = refl; wanting_is = refl; revoked_are = refl })
    (watched-opened (kept c.args.run.now.records.links) (kept c.opened.new.self) (g.N.Node.shown c.args.run.now.node) c.args.link
    c.opened.ensures.follows c.opened.ensures.lists)
    (opened_comes g.N.Node.stands g.N.Node.shown c.args.run.now c.args.link idle.idle may) had

pub returns-in_err-opened-in-Opened-clause-keeps : goal.returns-in_err-opened-in-Opened-clause-keeps
returns-in_err-opened-in-Opened-clause-keeps g c = λ idle had.
    let may : MayFinish ((kept c.args.run.now.records.links).links c.args.link) =
    c.may_finish.ensures.may c.if-not-may_finish.false in
    left g.N.Node.stands g.N.Node.shown c.from_residual.result _ _ (search rules)
    (lacked g.N.Node.stands g.N.Node.shown c.args.run.now (record c.args.run.now.records { links = c.opened.new.self })
    (e.Opened c.args.link) (Stands g.N.Node.stands g.N.Node.shown c.args.run.now) (g.W.World.trace c.args.world.now) _ c.in-Opened.ensures.adds (record { links = c.opened.ensures.follows; doors = λ d. refl; births_are = refl; wanting_is = refl; revoked_are = refl })
    (opened_comes g.N.Node.stands g.N.Node.shown c.args.run.now c.args.link idle.idle may) had)

pub returns-in-Balked-clause-keeps : goal.returns-in-Balked-clause-keeps
returns-in-Balked-clause-keeps g c = λ idle had.
    let may : MayFinish ((kept c.args.run.now.records.links).links c.args.link) =
    c.may_finish.ensures.may c.if-not-may_finish.false in
    rested g.N.Node.stands g.N.Node.shown c.args.run.now
    (record c.args.run.now { records = record c.args.run.now.records { links = c.finish_balked.new.self } })
    (e.Balked (way.Finish c.args.link)) (Stands g.N.Node.stands g.N.Node.shown c.args.run.now) (g.W.World.trace c.args.world.now) _ c.in-Balked.ensures.adds refl refl
    (λ notes trace. g.met.N.Node.rests notes c.args.run.now.node trace (e.Balked (way.Finish c.args.link))) (record { links = c.finish_balked.ensures.follows; doors = λ d. refl; births_are = refl; wanting_is = refl; revoked_are = refl })
    (watched-finish (kept c.args.run.now.records.links) (kept c.finish_balked.new.self) (g.N.Node.shown c.args.run.now.node) c.args.link
    c.finish_balked.ensures.follows c.finish_balked.ensures.stays.listed)
    (finish_balks g.N.Node.stands g.N.Node.shown c.args.run.now c.args.link idle.idle may) had

pub returns-in-Failed-clause-keeps : goal.returns-in-Failed-clause-keeps
returns-in-Failed-clause-keeps g c = λ idle had.
    let may : MayFinish ((kept c.args.run.now.records.links).links c.args.link) =
    c.may_finish.ensures.may c.if-not-may_finish.false in
    moved g.N.Node.stands g.N.Node.shown c.args.run.now (record c.args.run.now { node = c.broke.new.self })
    (e.Broke c.args.link) (Stands g.N.Node.stands g.N.Node.shown c.args.run.now) (g.W.World.trace c.args.world.now) _ c.in-Failed.ensures.adds refl
    c.broke.ensures (unmoved c.args.run.now.records (e.Broke c.args.link) tt) (λ watched. watched)
    (finish_breaks g.N.Node.stands g.N.Node.shown c.args.run.now c.args.link idle.idle may) had

pub returns-in-NoMemory-clause-keeps : goal.returns-in-NoMemory-clause-keeps
returns-in-NoMemory-clause-keeps g c = λ idle had. untold g.N.Node.stands g.N.Node.shown c.args.run.now (g.W.World.trace c.args.world.now) _ c.in-NoMemory.ensures.adds had
