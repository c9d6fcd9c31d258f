use Rattle.std.proofs.Common.{refl}
use Rattle.hb_world.specs.declared.entry.Entry.TheVariants as e
use Rattle.hb_captured.specs.Captured.{up_entered}
use Rattle.hb_captured.specs.Part.{up}
use Rattle.hb_relay.specs.Answering.{routing_of}
use Rattle.hb_relay.proofs.Meeting.{meets_settled, lives_calm}
use Rattle.hb_relay.proofs.relay.Relay.up_ended.Goals as goal

pub returns : goal.returns
returns c = λ u.
    meets_settled (up (e.Ended u)) c.args.self.now (routing_of c.args.routes.now) c.up_hang_up.new.self c.settle.new.self
    (routing_of c.settle.new.routes) (up_entered (e.Ended u)) c.settle.result (λ a. refl)
    (λ a shows may. lives_calm a.link may.0.0.1) (λ a. refl) (λ a shows. shows.upstream) (λ a straight. straight) c.up_hang_up.ensures
    c.settle.ensures.note c.settle.ensures.after c.settle.ensures.counts
