use Rattle.std.proofs.Common.{◌≡◌, List, ℕ, ◌-◌, ap, ◌∙◌, sym, subst, drop, length, arith}
use Rattle.hb_buffer.specs.BoundedBytes.{BoundedBytes}
use Rattle.hb_outgoing.proofs.Views.{Inside, Ends, view, front_is_written}
use Rattle.hb_outgoing.specs.Queue.{frames_of}
use Rattle.hb_outgoing.specs.Written.{begun_in}
use Rattle.hb_outgoing.specs.Selected.{data_count}
use Rattle.hb_outgoing.specs.Known.{KnowsData, NoDataBefore}
use Rattle.hb_outgoing.proofs.Known.{KnowsBehind, count_begun, knows_begun}
use Rattle.hb_outgoing.proofs.Places.{left_behind, before_written}
use Rattle.hb_outgoing.proofs.outgoing.Outgoing.wrote.Goals as goal

pub invariant_of-self : goal.invariant_of-self
invariant_of-self c =
    let n = c.args.n in
    let inv = c.self.invariant in
    let self = c.self.inside in
    let left = c.begin-end.result.0 - n in
    let is = c.drop_front.ensures in
    let at = c.begin-end.ensures in
    let before : Inside self.output.items self.rest = record { small = inv.1; within = inv.2; whole = inv.3 } in
    let ends : Ends c.front.result.now self.rest self.begun n c.begin-end.result.0 c.begin-end.result.1 =
    record { passes = at.passes; within = at.within; later = at.later; octets = at.octets; queue = at.queue; head_is = at.head } in
    let written = front_is_written _ _ _ _ _ _ _ _ c.front.ensures before ends c.while_waits-self-inside.ensures in
    let m = n - self.rest in
    let fs = frames_of (drop self.rest self.output.items) in
    let begun = subst (λ (xs : List ℕ). c.begin-end.result.2 ≡ data_count (begun_in m (frames_of (drop self.rest xs))))
    c.front.ensures at.count in
    let count = self.count - c.begin-end.result.2 in
    let knows = knows_begun self.data_waits self.count c.begin-end.result.2 m self.streams fs inv.4 begun in
    let front_ends = subst (λ (xs : List ℕ). Ends xs self.rest self.begun n c.begin-end.result.0 c.begin-end.result.1)
    c.front.ensures ends in
    let seen : frames_of (drop left (drop n self.output.items)) ≡ drop (length (begun_in m fs)) fs =
    left_behind _ _ _ _ _ _ front_ends in
    let known = subst (KnowsData self.data_waits count self.streams) (sym seen) knows in
    let places = before_written self.output.items self.rest self.from self.begun n c.begin-end.result.0 c.begin-end.result.1 before
    front_ends written.inside inv.5 in
    let place = subst (λ (k : ℕ). NoDataBefore (drop n self.output.items) left (k - n)) (sym c.max.ensures) places in
    let inside = subst (λ (b : BoundedBytes). Inside b.items left) (sym is) written.inside in (
      ap (λ (b : BoundedBytes). b.size) is ∙ inv.0,
      inside.small,
      inside.within,
      inside.whole,
      subst (λ (b : BoundedBytes). KnowsBehind self.data_waits count self.streams b.items left) (sym is) known,
      subst (λ (b : BoundedBytes). NoDataBefore b.items left (c.max.result - n)) (sym is) place,
    )

pub overflow_sub-self-3 : goal.overflow_sub-self-3
overflow_sub-self-3 c =
    let self = c.self.inside in
    let fs = frames_of (drop self.rest self.output.items) in
    let begun = subst
    (λ (xs : List ℕ). c.begin-end.result.2 ≡ data_count (begun_in (c.args.n - self.rest) (frames_of (drop self.rest xs))))
    c.front.ensures c.begin-end.ensures.count in
    omega (arith, begun, c.self.invariant.4.count_is, count_begun (c.args.n - self.rest) fs)

pub returns : goal.returns
returns c =
    let inv = c.self.invariant in
    let self = c.self.inside in
    let at = c.begin-end.ensures in
    let before : Inside self.output.items self.rest = record { small = inv.1; within = inv.2; whole = inv.3 } in
    let ends : Ends c.front.result.now self.rest self.begun c.args.n c.begin-end.result.0 c.begin-end.result.1 =
    record { passes = at.passes; within = at.within; later = at.later; octets = at.octets; queue = at.queue; head_is = at.head } in
    let written = front_is_written _ _ _ _ _ _ _ _ c.front.ensures before ends c.while_waits-self-inside.ensures in
    rw (← c.self.view_is)
    (c.look_for_data.ensures
    ∙ ap (λ (b : BoundedBytes). view b.items (c.begin-end.result.0 - c.args.n) c.while_waits-self-inside.result) c.drop_front.ensures
    ∙ written.seen)
