use Rattle.std.proofs.Common.{refl}
use Rattle.hb_relay.proofs.Streaming.{credits}
use Rattle.hb_relay.proofs.relay.Relay.credited.Goals as goal

pub returns : goal.returns
returns c =
    credits c.args.self.now (record c.args.self.now { owed = 0 }) (record { number = refl; after = refl })
