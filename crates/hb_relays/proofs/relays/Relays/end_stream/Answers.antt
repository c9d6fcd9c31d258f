use Rattle.std.proofs.Common.{None}
use Rattle.hb_gateway.specs.Response.{ends}
use Rattle.hb_link.proofs.Noted.{takes_none}
use Rattle.hb_relays.proofs.Stirs.{told_stirs}
use Rattle.hb_relays.proofs.Stopping.{hears_is}
use Rattle.hb_relays.proofs.relays.Relays.end_stream.Goals as goal

pub returns-clause-hears : goal.returns-clause-hears
returns-clause-hears c begun told =
    let k = c.args.self.now in
    let new = c.stream_ended.new.self in
    hears_is k c.touch.new.self _ k.routes c.args.link begun ends c.in-Some.relay.now new None told told
    c.in-Some.ensures.value (λ i is. c.stream_ended.ensures i _) (c.at.follows.holds new) c.touch.ensures (takes_none told)

pub returns-clause-stirs : goal.returns-clause-stirs
returns-clause-stirs c =
    let k = c.args.self.now in
    let new = c.stream_ended.new.self in
    told_stirs k c.touch.new.self _ k.routes c.args.link new c.touch.ensures (c.at.follows.holds new)
