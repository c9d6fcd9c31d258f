use Rattle.std.proofs.Common.{rules, ◌≡◌, ◌+◌, ◌≤◌, ◌^◌, ap, sym, subst, ◌∙◌, arith}
use Rattle.std.specs.FinMap as map
use Rattle.hb_map.specs.Keyed.{IsFirstFrom}
use Rattle.hb_slots.proofs.Joins.{same_first, first_joined, none_beyond}
use Rattle.hb_slots.proofs.slots.Slots.first_behind.Goals as goal

pub returns-in-Some : goal.returns-in-Some
returns-in-Some g c =
    let is : c.in-Some.from ≡ c.args.number + 1 = search rules in
    let first = subst (λ n. IsFirstFrom c.self.inside.index n c.first_from.result) is
    (same_first c.self.inside.index c.in-Some.from c.first_from.result c.first_from.ensures) in
    subst (λ m. IsFirstFrom m (c.args.number + 1) c.first_from.result) c.self.view_is
    (first_joined c.self.inside.index c.self.inside.cells c.self.invariant (c.args.number + 1) c.first_from.result first)

pub returns-in-None : goal.returns-in-None
returns-in-None g c = λ key le.
    let all : 2 ^ 32 ≤ c.args.number + 1 = search rules in
    sym (ap (λ m. map.get m key) c.self.view_is)
    ∙ none_beyond c.self.inside.index c.self.inside.cells c.self.invariant key (omega arith)
