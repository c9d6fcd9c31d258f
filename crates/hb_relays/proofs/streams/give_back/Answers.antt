use Rattle.std.proofs.Common.{arith}
use Rattle.hb_relays.specs.Pumping.{any}
use Rattle.hb_relays.proofs.Pumped.{none_owed, gives_back}
use Rattle.hb_relays.proofs.streams.give_back.Goals as goal

pub returns-then-owed-eq0 : goal.returns-then-owed-eq0
returns-then-owed-eq0 c =
    none_owed any c.args.stream c.owed-owed.result c.args.relay.now c.args.gate.now c.owed-owed.ensures c.if-owed-eq0.true

pub returns : goal.returns
returns c =
    let some = c.if-owed-eq0.false in
    gives_back any c.args.stream c.owed-owed.result c.args.relay.now c.credited.new.self c.args.gate.now c.credit.new.self
    c.owed-owed.ensures (omega (arith, some)) c.credit.ensures c.credited.ensures
