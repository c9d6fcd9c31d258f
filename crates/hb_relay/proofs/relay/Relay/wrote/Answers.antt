use Rattle.hb_relay.specs.Answering.{routing_of}
use Rattle.hb_relay.proofs.Meeting.{goes_down}
use Rattle.hb_relay.proofs.relay.Relay.wrote.Goals as goal

pub returns : goal.returns
returns c =
    goes_down c.args.self.now (routing_of c.args.routes.now) c.take_down.new.self c.settle.new.self (routing_of c.settle.new.routes)
    c.args.n c.settle.result c.take_down.ensures c.settle.ensures.note c.settle.ensures.after c.settle.ensures.counts
