-- What the map ends as once a borrow of one of its values ends.
use Rattle.std.specs.Prelude.{◌≡◌, ℕ, Option}
use Rattle.std.specs.Ordering.{nat_cmp}
use Rattle.std.specs.FinMap.{FinMap}
use Rattle.std.specs.Borrow.{LendsSo, MutBor, Fml, RattleType}
use Rattle.hb_map.specs.Keyed.{written}
use Rattle.hb_counted.specs.contracts.counted.Counted.{the_row}
use Rattle.hb_counted.specs.declared.classes.Classed.{Ghosts}

-- the map ends with the last value behind the result written under the number
abbrev pub LendsCounted : (T : RattleType) → Ghosts T.Denot → MutBor (FinMap nat_cmp T.Denot) → ℕ → Option (MutBor T.Denot) → Fml
LendsCounted T classes s number result =
    LendsSo (the_row T classes) T s result (λ n w. n ≡ written s.now number w) (λ n. n ≡ s.now)
