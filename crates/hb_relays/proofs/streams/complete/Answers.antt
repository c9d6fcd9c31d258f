use Rattle.hb_relay.specs.Answering.{routing_of}
use Rattle.hb_relays.proofs.Pumped.{incomplete_link, incomplete_gate, completes_both}
use Rattle.hb_relays.proofs.streams.complete.Goals as goal

pub returns-then-not-may_complete : goal.returns-then-not-may_complete
returns-then-not-may_complete c =
    incomplete_link c.args.stream c.args.relay.now c.args.gate.now (routing_of c.args.routes.now) c.may_complete.result
    c.may_complete.ensures c.if-not-may_complete.true

pub returns-then-not-is_through : goal.returns-then-not-is_through
returns-then-not-is_through c =
    incomplete_gate c.args.stream c.args.relay.now c.args.gate.now (routing_of c.args.routes.now) c.is_through.result
    c.is_through.ensures c.if-not-is_through.true

pub returns : goal.returns
returns c =
    completes_both c.args.stream c.args.relay.now c.complete.new.self c.args.gate.now c.leave-begun.new.self
    (routing_of c.args.routes.now) (routing_of c.complete.new.routes) c.may_complete.result c.is_through.result c.leave-begun.result
    c.complete.result c.may_complete.ensures c.if-not-may_complete.false c.is_through.ensures c.if-not-is_through.false
    c.leave-begun.ensures c.complete.ensures
