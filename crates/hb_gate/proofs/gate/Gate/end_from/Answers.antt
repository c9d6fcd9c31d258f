use Rattle.std.proofs.Common.{ℕ, ◌+◌, ◌^◌, ◌<◌, ◌≤◌, Option, refl, ap, ◌∙◌, subst, arith}
use Rattle.std.specs.FinMap.{get}
use Rattle.hb_gate.specs.Streams.{ended_from, ChangesAt, ChangedBelow}
use Rattle.hb_gate.specs.declared.gate.Gate.{Gate}
use Rattle.hb_gate.specs.declared.stream.Stream.{Stream}
use Rattle.hb_gate.proofs.Walks.{place_of, place_low, begins, goes, none_ends, ends_before, ends_behind}
use Rattle.hb_gate.proofs.gate.Gate.end_from.Goals as goal

pub loop-from-init : goal.loop-from-init
loop-from-init c =
    let low = c.args.low in
    let why = c.args.cause in
    let m = c.args.self.now.streams in
    let next = c.first_from-from.result in (
      begins (ended_from low why) (none_ends low why) low m next (λ s o less. ends_before low why s o less) c.first_from-from.ensures,
      place_low m low next (omega arith) c.first_from-from.ensures,
      refl,
    )

pub loop-from-preserved : goal.loop-from-preserved
loop-from-preserved c =
    let low = c.args.low in
    let why = c.args.cause in
    let old = c.args.self.now.streams in
    let before = c.loop-from.self.streams in
    let after = c.end_at.new.self.streams in
    let n = c.in-Some.number in
    let next = c.first_behind-from.result in
    let fits : n < 2 ^ 32 = omega arith in
    let was = subst (λ (o : Option ℕ). ChangedBelow (ended_from low why) (place_of o) old before × (low ≤ place_of o)) c.in-Some.is
    (c.loop-from.invariant.0, c.loop-from.invariant.1) in
    let step = subst (λ (o : Option Stream). ChangesAt n o before after) (ends_behind low why n (get before n) was.1)
    c.end_at.ensures.streams in
    let behind = place_low after (n + 1) next (omega (arith, fits)) c.first_behind-from.ensures in (
      goes (ended_from low why) (none_ends low why) old before after n next fits was.0 step c.first_behind-from.ensures,
      omega (arith, behind, was.1),
      c.end_at.ensures.rest ∙ ap (λ (k : Gate). record k { streams = after }) c.loop-from.invariant.2,
    )
