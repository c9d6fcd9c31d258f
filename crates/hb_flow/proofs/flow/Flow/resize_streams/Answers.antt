use Rattle.std.proofs.Common.{◌∙◌, subst}
use Rattle.hb_flow.proofs.Sizes.{AreMoved, step, all_moved, same_flows}
use Rattle.hb_flow.proofs.flow.Flow.resize_streams.Goals as goal

pub loop-next-preserved : goal.loop-next-preserved
loop-next-preserved c =
    let i = c.loop-next.invariant in
    let moved = subst (AreMoved c.args.size c.args.unbegun_stream c.args.unbegun c.args.self.now.streams c.loop-next.self.streams)
    c.in-Some.is i.moved in
    let s = step c.args.size c.args.unbegun_stream c.args.unbegun c.args.self.now.streams c.loop-next.self c.resize_stream.new.self
    c.in-Some.stream c.unbegun_on.result c.first_behind-next-in-Some.result c.unbegun_on.ensures moved
    c.in_ok-resize_stream.ensures c.first_behind-next-in-Some.ensures in
    record { sending = s.0 ∙ i.sending; taking = s.1 ∙ i.taking; initial = s.2 ∙ i.initial; moved = s.3 }

pub returns : goal.returns
returns c =
    let i = c.loop-next.invariant in
    let moved = subst (AreMoved c.args.size c.args.unbegun_stream c.args.unbegun c.args.self.now.streams c.loop-next.self.streams)
    c.in_default.is i.moved in (
      (λ n. (moved n).1),
      same_flows c.loop-next.self _ i.sending i.taking i.initial
          (all_moved c.args.size c.args.unbegun_stream c.args.unbegun c.args.self.now.streams c.loop-next.self.streams moved),
    )
