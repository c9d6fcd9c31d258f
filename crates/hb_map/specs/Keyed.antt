-- What the contracts say of a map under numbers beyond the library's words `get`, `insert`, `remove` and `len`.
use Rattle.std.specs.Prelude.{◌≡◌, ℕ, ◌≤◌, ◌<◌, cond, is_some, Option, Some, None, IsSome}
use Rattle.std.specs.Ordering.{nat_cmp}
use Rattle.std.specs.FinMap.{FinMap, get, insert}

module _ {T : Type 0} where
  -- m with w in place of what stands under the key; m itself where nothing stands there
  abbrev pub written : FinMap nat_cmp T → ℕ → T → FinMap nat_cmp T
  written m key w = cond (is_some (get m key)) (insert m key w) m

  -- the least key of m from `from` on, and none exactly where m has no key from there on
  abbrev pub IsFirstFrom : FinMap nat_cmp T → ℕ → Option ℕ → Type 0
  IsFirstFrom m from None = (key : ℕ) → from ≤ key → get m key ≡ None
  IsFirstFrom m from (Some first) =
      (from ≤ first) × IsSome (get m first) × ((key : ℕ) → from ≤ key → key < first → get m key ≡ None)
