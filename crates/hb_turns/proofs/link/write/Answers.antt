use Rattle.std.proofs.Common.{◌≡◌, ℕ, List, [], refl, rules, take, ◌∷◌, subst}
use Rattle.hb_world.specs.declared.entry.Entry.TheVariants as e
use Rattle.hb_world.specs.declared.entry.Way.TheVariants as way
use Rattle.hb_world.specs.Calls.{with_entries}
use Rattle.hb_ready.specs.Registry.{kept}
use Rattle.hb_turns.specs.May.{MayWrite}
use Rattle.hb_turns.specs.Stands.{Stands}
use Rattle.hb_turns.proofs.Holding.{moved, untold, unmoved, rested}
use Rattle.hb_turns.proofs.Watching.{watched-write}
use Rattle.hb_turns.proofs.Ways.{front_fits, front_taken, went_comes, went_tracks, write_balks, write_breaks}
use Rattle.hb_turns.proofs.link.write.Goals as goal

pub returns-in-Took-clause-keeps : goal.returns-in-Took-clause-keeps
returns-in-Took-clause-keeps g c = λ first had.
    let may : MayWrite ((kept c.args.run.now.records.links).links c.args.link) =
    c.may_write.ensures.may c.if-not-may_write.false in
    let front = c.output-output.ensures in
    let adds = subst (λ (bs : List ℕ). g.W.World.trace c.write.new.self ≡ with_entries (e.Went c.args.link bs ∷ []) (g.W.World.trace c.args.world.now))
    (front_taken c.in-Took.n _ _ front c.in-Took.ensures.within.1) c.in-Took.ensures.adds in
    moved g.N.Node.stands g.N.Node.shown c.args.run.now (record c.args.run.now { node = c.wrote.new.self })
    (e.Went c.args.link (take c.in-Took.n ((g.N.Node.shown c.args.run.now.node).output c.args.link))) (Stands g.N.Node.stands g.N.Node.shown c.args.run.now) (g.W.World.trace c.args.world.now) _ adds refl
    c.wrote.ensures (went_tracks c.args.run.now.records c.args.link _ may) (λ watched. watched)
    (went_comes g.N.Node.stands g.N.Node.shown c.args.run.now c.args.link first may c.in-Took.n c.in-Took.ensures.within.0
    (front_fits c.in-Took.n _ _ front c.in-Took.ensures.within.1)) had

pub returns-in-Balked-clause-keeps : goal.returns-in-Balked-clause-keeps
returns-in-Balked-clause-keeps g c = λ first had.
    let may : MayWrite ((kept c.args.run.now.records.links).links c.args.link) =
    c.may_write.ensures.may c.if-not-may_write.false in
    rested g.N.Node.stands g.N.Node.shown c.args.run.now
    (record c.args.run.now { records = record c.args.run.now.records { links = c.write_balked.new.self } })
    (e.Balked (way.Write c.args.link)) (Stands g.N.Node.stands g.N.Node.shown c.args.run.now) (g.W.World.trace c.args.world.now) _ c.in-Balked.ensures.adds refl refl
    (λ notes trace. g.met.N.Node.rests notes c.args.run.now.node trace (e.Balked (way.Write c.args.link))) (record { links = c.write_balked.ensures.follows; doors = λ d. refl; births_are = refl; wanting_is = refl; revoked_are = refl })
    (watched-write (kept c.args.run.now.records.links) (kept c.write_balked.new.self) (g.N.Node.shown c.args.run.now.node) c.args.link
    c.write_balked.ensures.follows c.write_balked.ensures.stays.listed)
    (write_balks g.N.Node.stands g.N.Node.shown c.args.run.now c.args.link first may
    (front_fits 1 _ _ c.output-output.ensures (search rules))) had

pub returns-in-Failed-clause-keeps : goal.returns-in-Failed-clause-keeps
returns-in-Failed-clause-keeps g c = λ first had.
    let may : MayWrite ((kept c.args.run.now.records.links).links c.args.link) =
    c.may_write.ensures.may c.if-not-may_write.false in
    moved g.N.Node.stands g.N.Node.shown c.args.run.now (record c.args.run.now { node = c.broke.new.self })
    (e.Broke c.args.link) (Stands g.N.Node.stands g.N.Node.shown c.args.run.now) (g.W.World.trace c.args.world.now) _ c.in-Failed.ensures.adds refl
    c.broke.ensures (unmoved c.args.run.now.records (e.Broke c.args.link) tt) (λ watched. watched)
    (write_breaks g.N.Node.stands g.N.Node.shown c.args.run.now c.args.link first may) had

pub returns-in-NoMemory-clause-keeps : goal.returns-in-NoMemory-clause-keeps
returns-in-NoMemory-clause-keeps g c = λ first had. untold g.N.Node.stands g.N.Node.shown c.args.run.now (g.W.World.trace c.args.world.now) _ c.in-NoMemory.ensures.adds had
