use Rattle.std.proofs.Common.{◌<◌, ◌^◌, ℕ, IsSome, subst}
use Rattle.std.specs.FinMap as map
use Rattle.hb_map.specs.Keyed.{IsFirstFrom}
use Rattle.hb_slots.proofs.Joins.{same_first, first_joined, narrow_joined}
use Rattle.hb_slots.proofs.slots.Slots.first_from.Goals as goal

pub returns-clause-first : goal.returns-clause-first
returns-clause-first g c =
    subst (λ m. IsFirstFrom m c.args.number c.first_from.result) c.self.view_is
    (first_joined c.self.inside.index c.self.inside.cells c.self.invariant c.args.number c.first_from.result
    (same_first c.self.inside.index c.args.number c.first_from.result c.first_from.ensures))

pub returns-clause-numbers : goal.returns-clause-numbers
returns-clause-numbers g c =
    subst (λ m. (n : ℕ) → IsSome (map.get m n) → n < 2 ^ 32) c.self.view_is
    (narrow_joined c.self.inside.index c.self.inside.cells c.self.invariant)
