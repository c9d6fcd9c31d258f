use Rattle.std.proofs.Common.{refl}
use Rattle.hb_base.specs.declared.cause.Cause.TheVariants as cause
use Rattle.hb_world.specs.declared.entry.Entry.TheVariants as e
use Rattle.hb_captured.specs.Part.{up}
use Rattle.hb_relay.specs.Answering.{routing_of}
use Rattle.hb_relay.proofs.Meeting.{meets_end, raw_broken}
use Rattle.hb_relay.proofs.relay.Relay.up_broke.Goals as goal

pub returns : goal.returns
returns c = λ u.
    meets_end (up (e.Broke u)) c.args.self.now (routing_of c.args.routes.now) c.leave_for.new.self
    (routing_of c.leave_for.new.routes) cause.UpFault c.leave_for.result (λ a. refl)
    (λ a shows may. raw_broken c.args.self.now a.link u shows may) c.leave_for.ensures.note c.leave_for.ensures.after
    c.leave_for.ensures.counts
