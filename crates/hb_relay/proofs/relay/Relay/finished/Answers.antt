use Rattle.std.proofs.Common.{true, refl}
use Rattle.hb_relay.proofs.Streaming.{finishes}
use Rattle.hb_relay.proofs.relay.Relay.finished.Goals as goal

pub returns : goal.returns
returns c =
    finishes c.args.self.now (record c.args.self.now { up_shut = true }) (record { number = refl; after = refl })
