-- Values under names that are found by their numbers.
use Rattle.std.specs.Prelude.{◌≡◌, ℕ, Bool, List, [], Option, Some, None, refl}
use Rattle.std.specs.Coded.{Coded, code_by, coded×, coded_ℕ, coded_list, coded_option}
use Rattle.std.specs.Cmp.Lexicographic.{slice_cmp}
use Rattle.std.specs.Ordering.{nat_cmp}
use Rattle.std.specs.FinMap.{code, get, contains_key}
use Rattle.hb_index.specs.declared.kept.Kept.{Kept}
use Rattle.hb_index.specs.Index.{Names, Places, names_or_none, stands_at, is_among}
use Rattle.hb_index.specs.Named.{Named}

-- values under their names, and what stood under the names that were changed
abbrev pub KeptValues : Type 0 → Type 0
KeptValues T = Kept T

-- they are stored as two maps
abbrev pub kept_code : {T : Type 0} → Coded T → Coded (KeptValues T)
kept_code {T} item =
    code_by (Named T × Named (Option T))
    (coded× (code {R = slice_cmp nat_cmp} (coded_list coded_ℕ) item)
    (code {R = slice_cmp nat_cmp} (coded_list coded_ℕ) (coded_option item)))
    (λ k. (k.now, k.past))
    (λ p. record { now = p.0; past = p.1 })
    (λ _. refl)

-- the numbers of what stands under a name
abbrev pub numbers_in : {T : Type 0} → (T → List ℕ) → Option T → List ℕ
numbers_in numbers None = []
numbers_in numbers (Some v) = numbers v

-- what stands under a name has a number
abbrev pub has_number : {T : Type 0} → (T → List ℕ) → Named T → ℕ → List ℕ → Bool
has_number numbers m k name = is_among (numbers_in numbers (get m name)) k

-- names stand under exactly the numbers of what stands under them
abbrev pub IsIndexed : {T : Type 0} → (T → List ℕ) → Named T → Places → Type 0
IsIndexed numbers m places = (k : ℕ) (name : List ℕ) → stands_at places k name ≡ has_number numbers m k name

-- these are the names of the values with a number
abbrev pub AreNamesAt : {T : Type 0} → (T → List ℕ) → Named T → ℕ → Option Names → Type 0
AreNamesAt numbers m k names = (name : List ℕ) → contains_key (names_or_none names) name ≡ has_number numbers m k name
