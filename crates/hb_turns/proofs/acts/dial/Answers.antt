use Rattle.std.proofs.Common.{◌≡◌, ◌+◌, refl, rules}
use Rattle.hb_world.specs.Trace.{births}
use Rattle.hb_world.specs.declared.entry.Entry.TheVariants as e
use Rattle.hb_turns.specs.Stands.{Stands}
use Rattle.hb_turns.proofs.Holding.{moved, lacked, left, untold, reserved, numbered_too, dial_comes, dial_fails, unmoved}
use Rattle.hb_turns.proofs.acts.dial.Goals as goal

pub returns-in_ok-dialled-in-New-clause-keeps : goal.returns-in_ok-dialled-in-New-clause-keeps
returns-in_ok-dialled-in-New-clause-keeps g c = λ dials had.
    let run = record c.args.run.now { records = record c.args.run.now.records { links = c.reserve.new.self } } in
    moved g.N.Node.stands g.N.Node.shown run (record run { node = c.dialled.new.self; records = c.enter.new.records })
    (e.Dialled c.in-New.link c.args.to c.args.why) (λ trace. Stands g.N.Node.stands g.N.Node.shown run trace × (c.in-New.link ≡ births trace + 1))
    (g.W.World.trace c.args.world.now) _ c.in-New.ensures.adds refl
    ((c.in_ok-dialled-in-New.ensures {u = tt}) c.args.to)
    (c.enter.ensures.dialled c.args.to c.args.why refl) (c.enter.ensures.watched (g.N.Node.shown run.node))
    (dial_comes g.N.Node.stands g.N.Node.shown run c.args.to c.args.why c.in-New.link dials)
    (numbered_too (Stands g.N.Node.stands g.N.Node.shown run) (g.W.World.trace c.args.world.now) c.in-New.link c.in-New.ensures.number
    (reserved g.N.Node.stands g.N.Node.shown c.args.run.now c.reserve.new.self (g.W.World.trace c.args.world.now)
    c.reserve.ensures.same had))

pub returns-in_err-dialled-in-New-clause-keeps : goal.returns-in_err-dialled-in-New-clause-keeps
returns-in_err-dialled-in-New-clause-keeps g c = λ dials had.
    let run = record c.args.run.now { records = record c.args.run.now.records { links = c.reserve.new.self } } in
    left g.N.Node.stands g.N.Node.shown c.from_residual-in_err-dialled-in-New.result
    (record run { node = c.dialled.new.self; records = c.enter.new.records }) _ (search rules)
    (lacked g.N.Node.stands g.N.Node.shown run c.enter.new.records
    (e.Dialled c.in-New.link c.args.to c.args.why) (λ trace. Stands g.N.Node.stands g.N.Node.shown run trace × (c.in-New.link ≡ births trace + 1))
    (g.W.World.trace c.args.world.now) _ c.in-New.ensures.adds
    (c.enter.ensures.dialled c.args.to c.args.why refl)
    (dial_comes g.N.Node.stands g.N.Node.shown run c.args.to c.args.why c.in-New.link dials)
    (numbered_too (Stands g.N.Node.stands g.N.Node.shown run) (g.W.World.trace c.args.world.now) c.in-New.link c.in-New.ensures.number
    (reserved g.N.Node.stands g.N.Node.shown c.args.run.now c.reserve.new.self (g.W.World.trace c.args.world.now)
    c.reserve.ensures.same had)))

pub returns-in_ok-dialled-in-Failed-clause-keeps : goal.returns-in_ok-dialled-in-Failed-clause-keeps
returns-in_ok-dialled-in-Failed-clause-keeps g c = λ dials had.
    let run = record c.args.run.now { records = record c.args.run.now.records { links = c.reserve.new.self } } in
    moved g.N.Node.stands g.N.Node.shown run (record run { node = c.dialled-in-Failed.new.self })
    (e.DialFailed c.args.to c.args.why) (Stands g.N.Node.stands g.N.Node.shown run)
    (g.W.World.trace c.args.world.now) _ c.in-Failed.ensures.adds refl
    ((c.in_ok-dialled-in-Failed.ensures {u = tt}) c.args.to)
    (unmoved run.records (e.DialFailed c.args.to c.args.why) tt) (λ watched. watched)
    (dial_fails g.N.Node.stands g.N.Node.shown run c.args.to c.args.why dials)
    (reserved g.N.Node.stands g.N.Node.shown c.args.run.now c.reserve.new.self (g.W.World.trace c.args.world.now)
    c.reserve.ensures.same had)

pub returns-in_err-dialled-in-Failed-clause-keeps : goal.returns-in_err-dialled-in-Failed-clause-keeps
returns-in_err-dialled-in-Failed-clause-keeps g c = λ dials had.
    let run = record c.args.run.now { records = record c.args.run.now.records { links = c.reserve.new.self } } in
    left g.N.Node.stands g.N.Node.shown c.from_residual-in_err-dialled-in-Failed.result
    (record run { node = c.dialled-in-Failed.new.self }) _ (search rules)
    (lacked g.N.Node.stands g.N.Node.shown run run.records
    (e.DialFailed c.args.to c.args.why) (Stands g.N.Node.stands g.N.Node.shown run)
    (g.W.World.trace c.args.world.now) _ c.in-Failed.ensures.adds
    (unmoved run.records (e.DialFailed c.args.to c.args.why) tt)
    (dial_fails g.N.Node.stands g.N.Node.shown run c.args.to c.args.why dials)
    (reserved g.N.Node.stands g.N.Node.shown c.args.run.now c.reserve.new.self (g.W.World.trace c.args.world.now)
    c.reserve.ensures.same had))

pub returns-in-NoMemory-clause-keeps : goal.returns-in-NoMemory-clause-keeps
returns-in-NoMemory-clause-keeps g c = λ dials had.
    let run = record c.args.run.now { records = record c.args.run.now.records { links = c.reserve.new.self } } in
    untold g.N.Node.stands g.N.Node.shown run (g.W.World.trace c.args.world.now) _ c.in-NoMemory.ensures.adds
    (reserved g.N.Node.stands g.N.Node.shown c.args.run.now c.reserve.new.self (g.W.World.trace c.args.world.now)
    c.reserve.ensures.same had)
