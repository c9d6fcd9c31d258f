use Rattle.std.proofs.Common.{ap, sym, ◌∙◌, subst, Option}
use Rattle.std.specs.FinMap.{get, remove}
use Rattle.hb_gate.specs.Hearing.{left_here}
use Rattle.hb_gate.specs.Streams.{Map, ChangesAt, kept}
use Rattle.hb_gate.specs.declared.stream.Stream.{Stream}
use Rattle.hb_gate.proofs.Moved.{kept_changes, left_changes}
use Rattle.hb_gate.proofs.hearing.hear.Goals as goal

pub returns-then-is_left-clause-streams : goal.returns-then-is_left-clause-streams
returns-then-is_left-clause-streams c =
    let m = c.args.streams.now in
    let s = c.args.number in
    let new = c.hears-look.new.self in
    let now = c.at.follows.lender new in
    let is = ap kept c.hears-look.ensures.stream ∙ sym (ap (left_here c.args.active c.args.word) c.in-Some.ensures.value) in
    subst (λ (n : Map). ChangesAt s (left_here c.args.active c.args.word (get m s)) m n) (sym c.remove.ensures.rest)
    (subst (λ (o : Option Stream). ChangesAt s o m (remove now s)) is
    (left_changes m s c.in-Some.stream.now new now c.in-Some.ensures.value (c.at.follows.holds new)
    (sym c.is_left.ensures ∙ c.if-is_left.true)))

pub returns-else-is_left-clause-streams : goal.returns-else-is_left-clause-streams
returns-else-is_left-clause-streams c =
    let m = c.args.streams.now in
    let s = c.args.number in
    let new = c.hears-look.new.self in
    let now = c.at.follows.lender new in
    let is = ap kept c.hears-look.ensures.stream ∙ sym (ap (left_here c.args.active c.args.word) c.in-Some.ensures.value) in
    subst (λ (o : Option Stream). ChangesAt s o m now) is
    (kept_changes m s c.in-Some.stream.now new now c.in-Some.ensures.value (c.at.follows.holds new)
    (sym c.is_left.ensures ∙ c.if-is_left.false))
