use Rattle.std.proofs.Common.{refl}
use Rattle.hb_relay.specs.declared.stage.Stage.TheVariants.{Opening}
use Rattle.hb_relay.proofs.Streaming.{asks}
use Rattle.hb_relay.proofs.relay.Relay.asked.Goals as goal

pub returns : goal.returns
returns c =
    asks c.args.gate c.args.stream c.args.self.now
    (record c.args.self.now { stage = Opening; gate = c.args.gate; gate_stream = c.args.stream })
    (record { number = refl; after = refl })
