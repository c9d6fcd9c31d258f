use Rattle.std.proofs.Common.{Some}
use Rattle.hb_gateway.specs.Response.{opens}
use Rattle.hb_relays.proofs.Stirs.{told_stirs}
use Rattle.hb_relays.proofs.Stopping.{hears_is}
use Rattle.hb_relays.proofs.relays.Relays.open_stream.Goals as goal

pub returns-clause-hears : goal.returns-clause-hears
returns-clause-hears g c begun =
    let k = c.args.self.now in
    let new = c.stream_opened-made.new.self in
    hears_is k c.touch.new.self _ k.routes c.args.link begun (opens c.args.end) c.in-Some.relay.now new (Some c.stream_opened-made.result)
    (g.N.Notes.told c.args.notes.now) (g.N.Notes.told c.tell.new.notes) c.in-Some.ensures.value
    (λ i is. c.stream_opened-made.ensures i _) (c.at.follows.holds new) c.touch.ensures c.tell.ensures

pub returns-clause-stirs : goal.returns-clause-stirs
returns-clause-stirs g c =
    let k = c.args.self.now in
    let new = c.stream_opened-made.new.self in
    told_stirs k c.touch.new.self _ k.routes c.args.link new c.touch.ensures (c.at.follows.holds new)
