use Rattle.hb_relay.specs.Answering.{routing_of}
use Rattle.hb_relay.proofs.Meeting.{goes_up}
use Rattle.hb_relay.proofs.relay.Relay.up_wrote.Goals as goal

pub returns : goal.returns
returns c =
    goes_up c.args.self.now (routing_of c.args.routes.now) c.take_up.new.self c.settle.new.self (routing_of c.settle.new.routes) c.args.n
    c.settle.result c.take_up.ensures c.settle.ensures.note c.settle.ensures.after c.settle.ensures.counts
