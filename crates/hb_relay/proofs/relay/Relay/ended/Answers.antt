use Rattle.std.proofs.Common.{refl}
use Rattle.hb_world.specs.declared.entry.Entry.TheVariants as e
use Rattle.hb_captured.specs.Answer.{key_of}
use Rattle.hb_captured.specs.Captured.{entered}
use Rattle.hb_captured.specs.Part.{entry}
use Rattle.hb_relay.specs.Answering.{routing_of}
use Rattle.hb_relay.proofs.Meeting.{meets_settled, hung_calm, hung_counts, hung_upstream}
use Rattle.hb_relay.proofs.relay.Relay.ended.Goals as goal

pub returns : goal.returns
returns c =
    let l = c.args.self.now.number in
    meets_settled (entry (e.Ended l)) c.args.self.now (routing_of c.args.routes.now) c.hang_up.new.self c.settle.new.self
    (routing_of c.settle.new.routes) (entered (e.Ended l)) c.settle.result (λ a. refl)
    (λ a shows may. hung_calm c.args.self.now a.link shows may.1.0 l) (λ a. hung_counts a.link l)
    (λ a shows. hung_upstream a.link.stage (key_of a.link.aim) a.link.up a.link.gate shows.upstream) (λ a straight. straight)
    c.hang_up.ensures c.settle.ensures.note c.settle.ensures.after c.settle.ensures.counts
