use Rattle.std.specs.Prelude.{◌≡◌, ℕ, Option}
use Rattle.std.specs.Ordering.{nat_cmp}
use Rattle.std.specs.FinMap.{FinMap}
use Rattle.std.specs.Borrow.{LendsSo, MutBor, Fml, RattleType}
use Rattle.hb_map.specs.contracts.by_id.ById.{the_row}
use Rattle.hb_map.specs.declared.key.Key.{Ghosts}
use Rattle.hb_map.specs.Keyed.{written}

-- the map ends with the last value behind the result written under the key
abbrev pub LendsById : (K T : RattleType) → Ghosts K.Denot → MutBor (FinMap nat_cmp T.Denot) → ℕ → Option (MutBor T.Denot) → Fml
LendsById K T keys s key result = LendsSo (the_row K T keys) T s result (λ n w. n ≡ written s.now key w) (λ n. n ≡ s.now)
