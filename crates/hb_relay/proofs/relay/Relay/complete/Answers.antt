use Rattle.std.proofs.Common.{ap}
use Rattle.hb_base.specs.declared.cause.Cause.TheVariants.{Done}
use Rattle.hb_captured.specs.Captured.{at_stage, over}
use Rattle.hb_relay.specs.Answering.{routing_of}
use Rattle.hb_relay.specs.declared.stage.Stage.TheVariants.{Over}
use Rattle.hb_relay.proofs.Streaming.{completes}
use Rattle.hb_relay.proofs.relay.Relay.complete.Goals as goal

pub returns : goal.returns
returns c =
    completes c.args.begun c.args.self.now (record c.leave.new.self { stage = Over Done }) (routing_of c.args.routes.now)
    (routing_of c.leave.new.routes) c.end_note.result
    (record { number = c.leave.ensures.after.number; after = ap (at_stage (over Done)) c.leave.ensures.after.after })
    c.leave.ensures.counts c.end_note.ensures
