-- Values under names.
use Rattle.std.specs.Prelude.{◌≡◌, ℕ, Bool, true, false, List, [], ◌∷◌, Option, Some, None}
use Rattle.std.specs.Cmp.Lexicographic.{slice_cmp}
use Rattle.std.specs.Ordering.{nat_cmp, is_lt}
use Rattle.std.specs.declared.cmp.Ordering.TheVariants.{Less}
use Rattle.std.specs.declared.ops.Bound.{Bound}
use Rattle.std.specs.declared.ops.Bound.TheVariants.{Excluded, Unbounded}
use Rattle.std.specs.FinMap.{FinMap}

-- a finite map from names, in the order of their bytes
abbrev pub Named : Type 0 → Type 0
Named T = FinMap (slice_cmp nat_cmp) T

-- the names of es stand behind k
abbrev pub AllBehind : {X : Type 0} → List ℕ → List (List ℕ × X) → Type 0
AllBehind k [] = Unit {0}
AllBehind k (e ∷ es) = (slice_cmp nat_cmp k e.0 ≡ Less) × AllBehind k es

-- the names of es rise, so each stands once
abbrev pub Rise : {X : Type 0} → List (List ℕ × X) → Type 0
Rise [] = Unit {0}
Rise (e ∷ es) = AllBehind e.0 es × Rise es

-- a name stands behind another one, by its bytes, or there is no other one
abbrev pub is_behind : Option (List ℕ) → List ℕ → Bool
is_behind None name = true
is_behind (Some other) name = is_lt (slice_cmp nat_cmp other name)

-- where the names behind another one start
abbrev pub start_behind : Option (List ℕ) → Bound (List ℕ)
start_behind None = Unbounded
start_behind (Some other) = Excluded other

-- of the names that pass it is the first behind another one, by bytes; none exactly where none that passes is behind it
abbrev pub IsFirstBehind : (List ℕ → Bool) → Option (List ℕ) → Option (List ℕ) → Type 0
IsFirstBehind passes other None = (name : List ℕ) → passes name ≡ true → is_behind other name ≡ false
IsFirstBehind passes other (Some first) =
    (passes first ≡ true) × (is_behind other first ≡ true)
    × ((name : List ℕ) → passes name ≡ true → is_behind other name ≡ true → is_lt (slice_cmp nat_cmp name first) ≡ false)
