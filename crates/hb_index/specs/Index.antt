-- Names under numbers.
use Rattle.std.specs.Prelude.{ℕ, Bool, ◌==◌, if◌then◌else◌, List, [], ◌∷◌, Option, Some, None}
use Rattle.std.specs.List.{list_any}
use Rattle.std.specs.Coded.{Coded, coded_ℕ, coded_list}
use Rattle.std.specs.Cmp.Lexicographic.{slice_cmp}
use base.Stored.{coded_unit}
use Rattle.std.specs.Ordering.{nat_cmp}
use Rattle.std.specs.FinMap.{FinMap, code, empty, get, contains_key, insert, remove, len}
use Rattle.hb_index.specs.Named.{Named}

-- a finite set of names
abbrev pub Names : Type 0
Names = Named (Unit {0})

-- the names under each number under which one stands
abbrev pub Places : Type 0
Places = FinMap nat_cmp Names

-- they are stored as entries
abbrev pub places_code : Coded Places
places_code = code {R = nat_cmp} coded_ℕ (code {R = slice_cmp nat_cmp} (coded_list coded_ℕ) coded_unit)

abbrev pub names_or_none : Option Names → Names
names_or_none None = empty
names_or_none (Some names) = names

-- the names under a number
abbrev pub names_at : Places → ℕ → Names
names_at m k = names_or_none (get m k)

-- a name stands under a number
abbrev pub stands_at : Places → ℕ → List ℕ → Bool
stands_at m k name = contains_key (names_at m k) name

-- these names under a number, which is left out where there are none
abbrev pub with_names : Places → ℕ → Names → Places
with_names m k names = if len names == 0 then remove m k else insert m k names

-- a name more under a number, and one less
abbrev pub with_name : Places → ℕ → List ℕ → Places
with_name m k name = insert m k (insert (names_at m k) name tt)

abbrev pub without_name : Places → ℕ → List ℕ → Places
without_name m k name = with_names m k (remove (names_at m k) name)

-- a name more under each of some numbers
abbrev pub with_all : Places → List ℕ → List ℕ → Places
with_all m name [] = m
with_all m name (k ∷ ks) = with_all (with_name m k name) name ks

-- a number is among these
abbrev pub is_among : List ℕ → ℕ → Bool
is_among ks k = list_any (λ n. n == k) ks

-- a name less under each of some numbers but those to be kept
abbrev pub without_all : Places → List ℕ → List ℕ → List ℕ → Places
without_all m name [] kept = m
without_all m name (k ∷ ks) kept = without_all (if is_among kept k then m else without_name m k name) name ks kept
