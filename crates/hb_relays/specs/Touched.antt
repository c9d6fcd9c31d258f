-- Which links were touched: those that are listed, in the order in which they were touched, and all from a number on.
use Rattle.std.specs.Prelude.{◌≡◌, ◌⊎◌, ℕ, ◌+◌, ◌-◌, ◌<◌, ◌≤◌, ◌^◌, ◌==◌, ◌||◌, ◌&&◌, not, Bool, true, false, nat_le, nat_lt, min, if◌then◌else◌, is_some, Option, Some, None, IsSome, List, [], ◌∷◌, ◌++◌, length}
use Rattle.std.specs.FinMap.{FinMap, get}
use Rattle.std.specs.List.{list_any}
use Rattle.std.specs.Ordering.{nat_cmp}
use Rattle.hb_relays.specs.declared.touched.Touched.{Touched}

-- the one that there may be
abbrev pub is_at : Option ℕ → ℕ → Bool
is_at None l = false
is_at (Some n) l = n == l

-- those that are listed, and those from a number on
abbrev pub is_listed : List ℕ → ℕ → Bool
is_listed ns l = list_any (λ n. n == l) ns

abbrev pub is_from : Option ℕ → ℕ → Bool
is_from None l = false
is_from (Some n) l = nat_le n l

abbrev pub is_touched : Touched → ℕ → Bool
is_touched t l = is_listed t.listed l || is_from t.from l

-- none is listed, and no number stands for all from it on
abbrev pub is_idle : Touched → Bool
is_idle t = (length t.listed == 0) && not (is_some t.from)

-- the least of what there is and of a number
abbrev pub least : Option ℕ → ℕ → ℕ
least None l = l
least (Some n) l = min n l

-- one more is listed, behind the others, where fewer than 32 are; else all from its number on are touched, or from a lower one on
abbrev pub listed_too : ℕ → Touched → Touched
listed_too l t = if nat_lt (length t.listed) 32 then record t { listed = t.listed ++ l ∷ [] } else record t { from = Some (least t.from l) }

-- one is touched: nothing changes where it is listed
abbrev pub touched : ℕ → Touched → Touched
touched l t = if is_listed t.listed l then t else listed_too l t

-- how far a walk that takes out one after another is from its end
abbrev pub from_left : Option ℕ → ℕ
from_left None = 0
from_left (Some n) = 2 ^ 64 - n

abbrev pub left_in : Touched → ℕ
left_in t = length t.listed + from_left t.from

-- One is taken out, which is kept under its number; others that are kept stay
pub record TakesOut {T : Type 0} (relays : FinMap nat_cmp T) (next : Option ℕ) (old new : Touched) : Type 0 where
  pub there : (l : ℕ) → next ≡ Some l → IsSome (get relays l)
  pub others : (l : ℕ) → l < 2 ^ 64 → IsSome (get relays l) → is_touched old l ≡ true → (is_touched new l ≡ true) ⊎ (next ≡ Some l)
  pub nearer : (l : ℕ) → next ≡ Some l → left_in new < left_in old
  pub no_farther : left_in new ≤ left_in old
