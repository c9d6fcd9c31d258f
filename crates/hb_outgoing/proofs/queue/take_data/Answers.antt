use Rattle.std.proofs.Common.{◌≡◌, ◌≤◌, ◌+◌, List, ℕ, true, false, length, drop, ap, ◌∙◌, sym, subst, arith, rules}
use Rattle.std.specs.Prelude.{◌==◌, ◌&&◌}
use Rattle.hb_frames.specs.RawFrame.{raw_at}
use Rattle.hb_outgoing.specs.Queue.{IsPlaced}
use Rattle.hb_outgoing.specs.Selected.{is_meant, is_data_of, counted}
use Rattle.hb_outgoing.specs.Waiting.{head_of}
use Rattle.hb_outgoing.specs.declared.head.Head.{Head}
use Rattle.hb_frames.specs.Numbers.{data_kind}
use Rattle.hb_outgoing.proofs.Views.{same_bounded}
use Rattle.hb_outgoing.proofs.Walks.{counted_least, taken_fits, kept_fits, more_ahead, takes_on, takes_end}
use Rattle.hb_outgoing.proofs.queue.take_data.Goals as goal

pub overflow_add-taken : goal.overflow_add-taken
overflow_add-taken c =
    let at = c.loop-ahead.at in
    let now = c.loop-ahead.output.items in
    let size = c.frame_at-next.result.size in
    let stream = c.args.stream in
    let seen : c.front.result.now ≡ now = c.front.ensures in
    let placed = subst (λ (xs : List ℕ). IsPlaced xs at size) seen c.frame_at-next.ensures.placed in
    let test_seen : is_data_of stream (raw_at (drop at c.front.result.now)) ≡ true = search rules in
    let test = subst (λ (xs : List ℕ). is_data_of stream (raw_at (drop at xs)) ≡ true) seen test_seen in
    let small : c.loop-ahead.taken + size ≤ 65536 =
    taken_fits stream c.args.output.now.items now c.args.from at c.loop-ahead.ahead (at + (9 + size))
    c.loop-ahead.taken c.loop-ahead.kept size (raw_at (drop at now)) c.loop-ahead.invariant.takes placed.stands test placed.size_is
    c.requires.whole c.requires.small in
    omega (arith, small)

pub frame_at-next-requires-clause-more : goal.frame_at-next-requires-clause-more
frame_at-next-requires-clause-more c =
    let more = more_ahead c.args.stream c.args.output.now.items c.loop-ahead.output.items c.args.from c.loop-ahead.at c.loop-ahead.ahead
    c.loop-ahead.taken c.loop-ahead.kept c.loop-ahead.invariant.takes (omega (arith, c.loop-ahead-test.true)) in
    omega (arith, more, ap length c.front.ensures)

pub overflow_add-kept : goal.overflow_add-kept
overflow_add-kept c =
    let few = kept_fits c.args.stream c.args.output.now.items c.loop-ahead.output.items c.args.from c.loop-ahead.at c.loop-ahead.ahead
    c.loop-ahead.taken c.loop-ahead.kept c.loop-ahead.invariant.takes c.requires.whole c.requires.small in
    let one : c.count_of-kept.result ≤ 1 =
    subst (λ (n : ℕ). n ≤ 1) (sym c.count_of-kept.ensures) (counted_least c.frame_at-next.result.head.kind) in
    omega (arith, few, one)

pub loop-ahead-preserved : goal.loop-ahead-preserved
loop-ahead-preserved c =
    let at = c.loop-ahead.at in
    let now = c.loop-ahead.output.items in
    let size = c.frame_at-next.result.size in
    let seen : c.front.result.now ≡ now = c.front.ensures in
    let placed = subst (λ (xs : List ℕ). IsPlaced xs at size) seen c.frame_at-next.ensures.placed in
    let f = raw_at (drop at now) in
    let head : c.frame_at-next.result.head ≡ head_of f =
    c.frame_at-next.ensures.head ∙ ap (λ (xs : List ℕ). head_of (raw_at (drop at xs))) seen in
    let test : is_data_of c.args.stream f ≡ false =
    ap (λ (h : Head). h.kind == data_kind && is_meant c.args.stream h.stream) (sym head) ∙ sym c.is_data_of.ensures
    ∙ c.if-is_data_of.false in
    let kind = ap (λ (h : Head). counted h.kind) head in
    record {
      size = c.loop-ahead.invariant.size;
      takes = takes_on c.args.stream c.args.output.now.items now c.args.from at c.loop-ahead.ahead (at + (9 + size)) c.loop-ahead.taken
          c.loop-ahead.kept c.count_of-ahead.result c.count_of-kept.result f c.loop-ahead.invariant.takes placed.stands placed.within
          placed.later test (c.count_of-ahead.ensures ∙ kind) (c.count_of-kept.ensures ∙ kind);
    }

pub returns : goal.returns
returns c =
    let none : c.loop-ahead.ahead ≡ 0 = omega (arith, c.loop-ahead-test.false) in
    let done = takes_end c.args.stream c.args.output.now.items c.loop-ahead.output.items c.args.from c.loop-ahead.at
    c.loop-ahead.ahead c.loop-ahead.taken c.loop-ahead.kept c.loop-ahead.invariant.takes none in
    record { value = done.1; count = done.2; left = same_bounded _ _ _ _ done.0 c.loop-ahead.invariant.size }
