use Rattle.hb_relay.specs.Answering.{routing_of}
use Rattle.hb_relays.specs.Pumping.{any, GivenBack, IsPut, IsFinished}
use Rattle.hb_relays.proofs.Pumped.{turns_then, rests_then}
use Rattle.hb_relays.proofs.streams.pump.Goals as goal

pub returns : goal.returns
returns c =
    let old = c.args.relay.now in
    let kept = c.args.gate.now in
    let s = c.args.stream in
    rests_then s any IsFinished old c.finish.new.relay c.complete.new.relay kept c.finish.new.gate c.complete.new.gate
    (routing_of c.args.routes.now) (routing_of c.complete.new.routes) c.complete.result
    (turns_then s any IsPut IsFinished old c.put.new.relay c.finish.new.relay kept c.put.new.gate c.finish.new.gate
    (turns_then s any GivenBack IsPut old c.give_back.new.relay c.put.new.relay kept c.give_back.new.gate c.put.new.gate
    c.give_back.ensures c.put.ensures) c.finish.ensures) c.complete.ensures
