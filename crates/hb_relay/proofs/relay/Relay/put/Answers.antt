use Rattle.std.proofs.Common.{refl, ap}
use Rattle.hb_relay.specs.Shows.{captured_of}
use Rattle.hb_relay.proofs.Streaming.{puts}
use Rattle.hb_relay.proofs.relay.Relay.put.Goals as goal

pub returns : goal.returns
returns c =
    puts c.args.n c.args.self.now (record c.args.self.now { ways = c.took_up.new.self }) (record {
      number = refl;
      after = ap (λ w. captured_of (record c.args.self.now { ways = w })) c.took_up.ensures;
    })
