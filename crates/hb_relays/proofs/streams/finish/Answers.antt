use Rattle.hb_relays.proofs.Pumped.{unfinished_link, unfinished_gate, finishes_both}
use Rattle.hb_relays.proofs.streams.finish.Goals as goal

pub returns-then-not-may_finish : goal.returns-then-not-may_finish
returns-then-not-may_finish c =
    unfinished_link c.args.stream c.args.relay.now c.args.gate.now c.may_finish.result c.may_finish.ensures c.if-not-may_finish.true

pub returns-then-not-may_finish-2 : goal.returns-then-not-may_finish-2
returns-then-not-may_finish-2 c =
    unfinished_gate c.args.stream c.args.relay.now c.args.gate.now c.may_finish-2.result c.may_finish-2.ensures c.if-not-may_finish-2.true

pub returns : goal.returns
returns c =
    finishes_both c.args.stream c.args.relay.now c.finished.new.self c.args.gate.now c.finish.new.self c.may_finish.result
    c.may_finish-2.result c.may_finish.ensures c.if-not-may_finish.false c.may_finish-2.ensures c.if-not-may_finish-2.false
    c.finish.ensures c.finished.ensures
