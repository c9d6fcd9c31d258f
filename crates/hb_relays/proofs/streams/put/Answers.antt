use Rattle.std.proofs.Common.{arith}
use Rattle.hb_relay.specs.Shows.{captured_of}
use Rattle.hb_relays.proofs.Pumped.{waits_held, puts_none, puts_some}
use Rattle.hb_relays.proofs.streams.put.Goals as goal

pub returns-then-count-eq0 : goal.returns-then-count-eq0
returns-then-count-eq0 c =
    let old = c.args.relay.now in
    puts_none c.args.stream c.put_waiting-count.result old c.args.gate.now c.put_waiting-count.new.gate (captured_of old).ways.up.held
    (waits_held old) c.put_waiting-count.ensures.puts c.if-count-eq0.true

pub returns : goal.returns
returns c =
    let old = c.args.relay.now in
    let some = c.if-count-eq0.false in
    puts_some c.args.stream c.put_waiting-count.result old c.put.new.self c.args.gate.now c.put_waiting-count.new.gate
    (captured_of old).ways.up.held (waits_held old) c.put_waiting-count.ensures.puts (omega (arith, some))
    c.put_waiting-count.ensures.most c.put.ensures
