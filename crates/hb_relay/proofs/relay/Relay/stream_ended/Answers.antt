use Rattle.std.proofs.Common.{refl, ap}
use Rattle.hb_relay.specs.Shows.{captured_of}
use Rattle.hb_relay.proofs.Streaming.{hears_end}
use Rattle.hb_relay.proofs.relay.Relay.stream_ended.Goals as goal

pub returns : goal.returns
returns c =
    hears_end c.args.self.now (record c.args.self.now { ways = c.end_down.new.self }) (record {
      number = refl;
      after = ap (λ w. captured_of (record c.args.self.now { ways = w })) c.end_down.ensures;
    })
