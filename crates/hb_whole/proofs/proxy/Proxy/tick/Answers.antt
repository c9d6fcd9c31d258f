use Rattle.std.proofs.Common.{refl}
use Rattle.hb_world.specs.declared.entry.Entry.TheVariants as e
use Rattle.hb_whole.proofs.ControlMay.{free_control}
use Rattle.hb_whole.proofs.Free.{free}
use Rattle.hb_whole.proofs.Heard.{state_tells, judged_alone}
use Rattle.hb_whole.proofs.proxy.Proxy.tick.Goals as goal

pub returns-clause-tells : goal.returns-clause-tells
returns-clause-tells c =
    let p = c.args.self.now in
    let n = c.tick.new.self in
    state_tells p n p.side e.Tick refl (λ x. refl)
    (λ taken trace s may. let all = free taken p trace s may in (may.0, all.control, free_control s.machine e.Tick all tt))
    (judged_alone e.Tick p n c.tick.ensures.enters)

pub returns-clause-config : goal.returns-clause-config
returns-clause-config c = c.tick.ensures.enters.0
