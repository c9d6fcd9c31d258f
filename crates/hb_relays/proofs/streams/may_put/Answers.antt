use Rattle.hb_relays.proofs.Pumped.{none_waits, none_fits}
use Rattle.hb_relays.proofs.streams.may_put.Goals as goal

pub returns-then-not-has_waiting : goal.returns-then-not-has_waiting
returns-then-not-has_waiting c =
    none_waits c.args.relay.now c.args.gate.now c.has_waiting.result c.has_waiting.ensures c.if-not-has_waiting.true

pub returns : goal.returns
returns c = none_fits c.args.relay.now c.args.gate.now c.may_put.result c.may_put.ensures
