use Rattle.std.proofs.Common.{refl}
use Rattle.hb_whole.proofs.Starting.{fresh_stands, fresh_node}
use Rattle.hb_whole.proofs.proxy.Proxy.new.Goals as goal

pub returns-clause-stands : goal.returns-clause-stands
returns-clause-stands c =
    let at = c.in_ok-control.ensures {u = tt} in
    fresh_stands _ c.args.config at.state at.shows c.new-2.ensures.shows (c.new-3.ensures.shows c.args.config refl) c.new-4.ensures
    refl refl c.new-2.ensures.counted refl refl

pub returns-clause-fresh : goal.returns-clause-fresh
returns-clause-fresh c =
    let at = c.in_ok-control.ensures {u = tt} in
    fresh_node _ c.args.config at.state c.new-2.ensures.idle c.new-3.ensures.idle c.new-3.ensures.gate_idle refl
