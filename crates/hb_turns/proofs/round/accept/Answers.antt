use Rattle.std.proofs.Common.{◌≡◌, ◌+◌, true, refl, rules, sym, ◌∙◌}
use Rattle.hb_world.specs.Trace.{births}
use Rattle.hb_world.specs.declared.entry.Entry.TheVariants as e
use Rattle.hb_world.specs.declared.entry.Way.TheVariants as way
use Rattle.hb_ready.specs.Sight.{asked_at}
use Rattle.hb_turns.specs.Stands.{Stands}
use Rattle.hb_turns.proofs.Holding.{moved, lacked, left, untold, rested, reserved, numbered_too, accept_comes, accept_balks, accept_tracks}
use Rattle.hb_turns.proofs.round.accept.Goals as goal

pub returns-in_ok-accepted-in-New-clause-keeps : goal.returns-in_ok-accepted-in-New-clause-keeps
returns-in_ok-accepted-in-New-clause-keeps g c = λ idle had.
    let run = record c.args.run.now { records = record c.args.run.now.records { links = c.reserve.new.self } } in
    let is : asked_at run.records.asked c.args.door ≡ true = sym c.at.ensures ∙ c.if-not-at.false in
    moved g.N.Node.stands g.N.Node.shown run (record run { node = c.accepted.new.self; records = c.enter.new.records })
    (e.Accepted c.in-New.link c.args.door) (λ trace. Stands g.N.Node.stands g.N.Node.shown run trace × (c.in-New.link ≡ births trace + 1))
    (g.W.World.trace c.args.world.now) _ c.in-New.ensures.adds refl (c.in_ok-accepted-in-New.ensures {u = tt}) (c.enter.ensures.accepted c.args.door refl)
    (c.enter.ensures.watched (g.N.Node.shown run.node))
    (accept_comes g.N.Node.stands g.N.Node.shown run c.args.door c.in-New.link idle.idle is)
    (numbered_too (Stands g.N.Node.stands g.N.Node.shown run) (g.W.World.trace c.args.world.now) c.in-New.link c.in-New.ensures.number (reserved g.N.Node.stands g.N.Node.shown c.args.run.now c.reserve.new.self (g.W.World.trace c.args.world.now)
    c.reserve.ensures.same had))

pub returns-in_err-accepted-in-New-clause-keeps : goal.returns-in_err-accepted-in-New-clause-keeps
returns-in_err-accepted-in-New-clause-keeps g c = λ idle had.
    let run = record c.args.run.now { records = record c.args.run.now.records { links = c.reserve.new.self } } in
    let is : asked_at run.records.asked c.args.door ≡ true = sym c.at.ensures ∙ c.if-not-at.false in
    left g.N.Node.stands g.N.Node.shown c.from_residual-in_err-accepted-in-New.result
    (record run { node = c.accepted.new.self; records = c.enter.new.records }) _ (search rules)
    (lacked g.N.Node.stands g.N.Node.shown run c.enter.new.records
    (e.Accepted c.in-New.link c.args.door) (λ trace. Stands g.N.Node.stands g.N.Node.shown run trace × (c.in-New.link ≡ births trace + 1))
    (g.W.World.trace c.args.world.now) _ c.in-New.ensures.adds (c.enter.ensures.accepted c.args.door refl)
    (accept_comes g.N.Node.stands g.N.Node.shown run c.args.door c.in-New.link idle.idle is)
    (numbered_too (Stands g.N.Node.stands g.N.Node.shown run) (g.W.World.trace c.args.world.now) c.in-New.link c.in-New.ensures.number (reserved g.N.Node.stands g.N.Node.shown c.args.run.now c.reserve.new.self (g.W.World.trace c.args.world.now)
    c.reserve.ensures.same had)))

pub returns-in-Balked-clause-keeps : goal.returns-in-Balked-clause-keeps
returns-in-Balked-clause-keeps g c = λ idle had.
    let run = record c.args.run.now { records = record c.args.run.now.records { links = c.reserve.new.self } } in
    let is : asked_at run.records.asked c.args.door ≡ true = sym c.at.ensures ∙ c.if-not-at.false in
    rested g.N.Node.stands g.N.Node.shown run (record run { records = record run.records { asked = c.set.new.self } })
    (e.Balked (way.Accept c.args.door)) (Stands g.N.Node.stands g.N.Node.shown run) (g.W.World.trace c.args.world.now) _ c.in-Balked.ensures.adds refl refl
    (λ notes trace. g.met.N.Node.rests notes run.node trace (e.Balked (way.Accept c.args.door)))
    (accept_tracks run.records c.set.new.self c.args.door c.set.ensures) (λ watched. watched)
    (accept_balks g.N.Node.stands g.N.Node.shown run c.args.door idle.idle is) (reserved g.N.Node.stands g.N.Node.shown c.args.run.now c.reserve.new.self (g.W.World.trace c.args.world.now)
    c.reserve.ensures.same had)

pub returns-in-Failed-clause-keeps : goal.returns-in-Failed-clause-keeps
returns-in-Failed-clause-keeps g c = λ idle had.
    let run = record c.args.run.now { records = record c.args.run.now.records { links = c.reserve.new.self } } in
    let is : asked_at run.records.asked c.args.door ≡ true = sym c.at.ensures ∙ c.if-not-at.false in
    rested g.N.Node.stands g.N.Node.shown run (record run { records = record run.records { asked = c.set-in-Failed.new.self } })
    (e.Balked (way.Accept c.args.door)) (Stands g.N.Node.stands g.N.Node.shown run) (g.W.World.trace c.args.world.now) _ c.in-Failed.ensures.adds refl refl
    (λ notes trace. g.met.N.Node.rests notes run.node trace (e.Balked (way.Accept c.args.door)))
    (accept_tracks run.records c.set-in-Failed.new.self c.args.door c.set-in-Failed.ensures) (λ watched. watched)
    (accept_balks g.N.Node.stands g.N.Node.shown run c.args.door idle.idle is) (reserved g.N.Node.stands g.N.Node.shown c.args.run.now c.reserve.new.self (g.W.World.trace c.args.world.now)
    c.reserve.ensures.same had)

pub returns-in-NoMemory-clause-keeps : goal.returns-in-NoMemory-clause-keeps
returns-in-NoMemory-clause-keeps g c = λ idle had.
    let run = record c.args.run.now { records = record c.args.run.now.records { links = c.reserve.new.self } } in
    untold g.N.Node.stands g.N.Node.shown run (g.W.World.trace c.args.world.now) _ c.in-NoMemory.ensures.adds (reserved g.N.Node.stands g.N.Node.shown c.args.run.now c.reserve.new.self (g.W.World.trace c.args.world.now)
    c.reserve.ensures.same had)
