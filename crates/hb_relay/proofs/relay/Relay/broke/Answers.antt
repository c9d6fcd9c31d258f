use Rattle.std.proofs.Common.{refl}
use Rattle.hb_base.specs.declared.cause.Cause.TheVariants as cause
use Rattle.hb_world.specs.declared.entry.Entry.TheVariants as e
use Rattle.hb_captured.specs.Part.{entry}
use Rattle.hb_relay.specs.Answering.{routing_of}
use Rattle.hb_relay.proofs.Meeting.{leaves}
use Rattle.hb_relay.proofs.relay.Relay.broke.Goals as goal

pub returns : goal.returns
returns c =
    leaves (entry (e.Broke c.args.self.now.number)) c.args.self.now (routing_of c.args.routes.now) c.leave_for.new.self
    (routing_of c.leave_for.new.routes) cause.PeerGone c.args.begun c.leave_for.result (λ a. refl) c.leave_for.ensures.note
    c.leave_for.ensures.after c.leave_for.ensures.counts
