use Rattle.hb_relays.proofs.EndingGates.{gate_stop_is}
use Rattle.hb_relays.proofs.Stirs.{gate_told_stirs}
use Rattle.hb_relays.proofs.relays.Relays.stop_gate.Goals as goal

pub returns-clause-stops : goal.returns-clause-stops
returns-clause-stops c =
    let new = c.stopped.new.self in
    gate_stop_is c.args.cause c.args.self.now c.touch_gate.new.self _ c.args.number c.in-Some.gate.now new c.in-Some.ensures.value
    c.stopped.ensures (c.at.follows.holds new) c.touch_gate.ensures

pub returns-clause-stirs : goal.returns-clause-stirs
returns-clause-stirs c =
    gate_told_stirs c.args.self.now c.touch_gate.new.self _ c.args.number c.stopped.new.self (c.at.follows.holds c.stopped.new.self)
    c.touch_gate.ensures
