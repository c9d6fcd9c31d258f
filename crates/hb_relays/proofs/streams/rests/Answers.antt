use Rattle.std.proofs.Common.{arith}
use Rattle.hb_relays.proofs.Pumped.{not_true, rests_on}
use Rattle.hb_relays.proofs.streams.rests.Goals as goal

pub returns-then-not-may_finish : goal.returns-then-not-may_finish
returns-then-not-may_finish c =
    rests_on c.args.relay.now c.args.gate.now c.owed.result c.may_put.result c.may_finish.result c.may_complete.result _ c.owed.ensures
    c.may_put.ensures c.may_finish.ensures c.may_complete.ensures (omega (arith, c.if-owed-ne0.false)) c.if-may_put.false
    c.if-not-may_finish.true (not_true c.may_complete.result)
