use Rattle.std.proofs.Common.{refl, ap}
use Rattle.hb_relay.specs.Shows.{captured_of}
use Rattle.hb_relay.proofs.Meeting.{comes_down}
use Rattle.hb_relay.proofs.relay.Relay.up_bytes.Goals as goal

pub returns : goal.returns
returns c = λ u.
    comes_down c.args.self.now (record c.args.self.now { ways = c.push_down.new.self }) u c.args.b.now (record {
      number = refl;
      after = ap (λ w. captured_of (record c.args.self.now { ways = w })) c.push_down.ensures;
    })
