use Rattle.hb_relays.proofs.Stopping.{stop_is, stop_stirs}
use Rattle.hb_relays.proofs.relays.Relays.stop_at.Goals as goal

pub returns-clause-tells : goal.returns-clause-tells
returns-clause-tells g c =
    let new = c.stopped-made.new.self in
    stop_is c.args.self.now c.touch.new.self _ c.take_its_mail-begun.new.gates c.args.number c.take_its_mail-begun.result c.stream.result
    new c.take_its_mail-begun.ensures (c.at.follows.holds new) c.touch.ensures c.args.cause c.in-Some.relay.now c.stopped-made.result
    (g.N.Notes.told c.args.notes.now) (g.N.Notes.told c.tell.new.notes) c.in-Some.ensures.value c.stream.ensures c.stopped-made.ensures
    c.tell.ensures

pub returns-clause-stirs : goal.returns-clause-stirs
returns-clause-stirs g c =
    let new = c.stopped-made.new.self in
    stop_stirs c.args.self.now c.touch.new.self _ c.take_its_mail-begun.new.gates c.args.number c.take_its_mail-begun.result c.stream.result
    new c.take_its_mail-begun.ensures (c.at.follows.holds new) c.touch.ensures
