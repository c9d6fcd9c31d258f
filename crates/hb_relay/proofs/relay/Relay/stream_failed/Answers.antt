use Rattle.hb_relay.specs.Answering.{routing_of}
use Rattle.hb_relay.proofs.Meeting.{fails_there}
use Rattle.hb_relay.proofs.relay.Relay.stream_failed.Goals as goal

pub returns : goal.returns
returns c =
    fails_there c.args.self.now (routing_of c.args.routes.now) c.leave_for.new.self (routing_of c.leave_for.new.routes) c.args.cause
    c.args.begun c.leave_for.result c.leave_for.ensures.note c.leave_for.ensures.after c.leave_for.ensures.counts
