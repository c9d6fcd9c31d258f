use Rattle.std.proofs.Common.{refl}
use Rattle.hb_world.specs.declared.entry.Entry.TheVariants as e
use Rattle.hb_world.specs.declared.entry.Way.TheVariants as way
use Rattle.hb_ready.specs.Registry.{kept}
use Rattle.hb_turns.specs.May.{MayLook}
use Rattle.hb_turns.specs.Stands.{Stands}
use Rattle.hb_turns.proofs.Holding.{moved, untold, unmoved, rested}
use Rattle.hb_turns.proofs.Watching.{watched-look}
use Rattle.hb_turns.proofs.Ways.{look_balks, look_breaks}
use Rattle.hb_turns.proofs.link.look.Goals as goal

pub returns-in-Fine-clause-keeps : goal.returns-in-Fine-clause-keeps
returns-in-Fine-clause-keeps g c = λ idle had.
    let may : MayLook ((kept c.args.run.now.records.links).links c.args.link) =
    c.may_look.ensures.may c.if-not-may_look.false in
    rested g.N.Node.stands g.N.Node.shown c.args.run.now
    (record c.args.run.now { records = record c.args.run.now.records { links = c.look_balked.new.self } })
    (e.Balked (way.Look c.args.link)) (Stands g.N.Node.stands g.N.Node.shown c.args.run.now) (g.W.World.trace c.args.world.now) _ c.in-Fine.ensures.adds refl refl
    (λ notes trace. g.met.N.Node.rests notes c.args.run.now.node trace (e.Balked (way.Look c.args.link))) (record { links = c.look_balked.ensures.follows; doors = λ d. refl; births_are = refl; wanting_is = refl; revoked_are = refl })
    (watched-look (kept c.args.run.now.records.links) (kept c.look_balked.new.self) (g.N.Node.shown c.args.run.now.node) c.args.link
    c.look_balked.ensures.follows c.look_balked.ensures.stays.listed)
    (look_balks g.N.Node.stands g.N.Node.shown c.args.run.now c.args.link idle.idle may) had

pub returns-in-Failed-clause-keeps : goal.returns-in-Failed-clause-keeps
returns-in-Failed-clause-keeps g c = λ idle had.
    let may : MayLook ((kept c.args.run.now.records.links).links c.args.link) =
    c.may_look.ensures.may c.if-not-may_look.false in
    moved g.N.Node.stands g.N.Node.shown c.args.run.now (record c.args.run.now { node = c.broke.new.self })
    (e.Broke c.args.link) (Stands g.N.Node.stands g.N.Node.shown c.args.run.now) (g.W.World.trace c.args.world.now) _ c.in-Failed.ensures.adds refl
    c.broke.ensures (unmoved c.args.run.now.records (e.Broke c.args.link) tt) (λ watched. watched)
    (look_breaks g.N.Node.stands g.N.Node.shown c.args.run.now c.args.link idle.idle may) had

pub returns-in-NoMemory-clause-keeps : goal.returns-in-NoMemory-clause-keeps
returns-in-NoMemory-clause-keeps g c = λ idle had. untold g.N.Node.stands g.N.Node.shown c.args.run.now (g.W.World.trace c.args.world.now) _ c.in-NoMemory.ensures.adds had
