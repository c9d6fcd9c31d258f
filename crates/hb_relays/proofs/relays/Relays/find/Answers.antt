use Rattle.hb_relays.proofs.LeftToLook.{put_falls}
use Rattle.hb_relays.proofs.Stirs.{gate_told_stirs}
use Rattle.hb_relays.proofs.Stopping.{finds_is}
use Rattle.hb_relays.proofs.relays.Relays.find.Goals as goal

pub returns-clause-finds : goal.returns-clause-finds
returns-clause-finds c =
    finds_is c.args.self.now c.touch_gate.new.self _ c.args.number c.in_ok-look.look c.look.new.bytes.items c.in-Some.gate.now
    c.look.new.self c.in-Some.ensures.value c.in_ok-look.ensures.looks (c.at.follows.holds c.look.new.self) c.touch_gate.ensures

pub returns-clause-stirs : goal.returns-clause-stirs
returns-clause-stirs c =
    gate_told_stirs c.args.self.now c.touch_gate.new.self _ c.args.number c.look.new.self
    (c.at.follows.holds c.look.new.self) c.touch_gate.ensures

pub returns-clause-falls : goal.returns-clause-falls
returns-clause-falls c more =
    put_falls c.args.self.now c.touch_gate.new.self _ c.args.number c.in-Some.gate.now c.look.new.self c.in-Some.ensures.value
    (c.at.follows.holds c.look.new.self) c.touch_gate.ensures (c.in_ok-look.ensures.falls more)
