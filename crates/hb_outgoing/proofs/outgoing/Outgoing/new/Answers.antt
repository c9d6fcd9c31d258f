use Rattle.std.proofs.Common.{ap, false, ◌∙◌, sym, subst, None, []}
use Rattle.hb_buffer.specs.BoundedBytes.{BoundedBytes}
use Rattle.hb_outgoing.specs.Known.{NoDataBefore}
use Rattle.hb_outgoing.proofs.Views.{Inside, view, none_waits}
use Rattle.hb_outgoing.proofs.Known.{KnowsBehind, knows_none, knows_becomes}
use Rattle.hb_outgoing.proofs.Places.{at_rest}
use Rattle.hb_outgoing.proofs.outgoing.Outgoing.new.Goals as goal

pub invariant_of-result : goal.invariant_of-result
invariant_of-result c =
    let is = c.in_ok-output.ensures in
    let streams = c.in_ok-streams.streams in
    let known = knows_becomes false 0 streams _ _ _ _ none_waits (knows_none false streams) in
    let knows = subst (λ (b : BoundedBytes). KnowsBehind false 0 streams b.items 0) (sym is) known in
    let inside = subst (λ (b : BoundedBytes). Inside b.items 0) (sym is) none_waits.inside in
    let before = subst (λ (b : BoundedBytes). NoDataBefore b.items 0 0) (sym is) (at_rest [] 0 none_waits.inside) in
    (ap (λ (b : BoundedBytes). b.size) is, inside.small, inside.within, inside.whole, knows, before)

pub returns : goal.returns
returns c = ap (λ (b : BoundedBytes). view b.items 0 None) c.in_ok-output.ensures ∙ none_waits.seen
