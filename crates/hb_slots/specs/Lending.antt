-- What the map ends as once a borrow of one of its values ends.
use Rattle.std.specs.Prelude.{◌≡◌, ℕ, Option}
use Rattle.std.specs.Ordering.{nat_cmp}
use Rattle.std.specs.FinMap.{FinMap}
use Rattle.std.specs.Borrow.{LendsSo, MutBor, Fml, RattleType}
use Rattle.hb_map.specs.Keyed.{written}
use Rattle.hb_slots.specs.contracts.slots.Slots.{the_row}

-- the map ends with the last value behind the result written under the number
abbrev pub LendsItem : (T : RattleType) → MutBor (FinMap nat_cmp T.Denot) → ℕ → Option (MutBor T.Denot) → Fml
LendsItem T s number result = LendsSo (the_row T) T s result (λ n w. n ≡ written s.now number w) (λ n. n ≡ s.now)
