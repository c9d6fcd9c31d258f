-- The numbers of open connections after a change.
use Rattle.std.proofs.Common.{◌≡◌, ℕ, ◌+◌, ◌-◌, Bool, true, false, cond, List, [], ◌∷◌, Option, Some, None, refl, ap, sym, ◌∙◌, arith}
use Rattle.std.proofs.lemmas.Bool.Decides.{nat_tests}
use Rattle.std.proofs.lemmas.Cmp.{tied_itself}
use Rattle.std.proofs.lemmas.Slice.Eq.{bytes_eq-Decides}
use Rattle.std.specs.Cmp.Lexicographic.{nat_list_cmp_total}
use Rattle.std.specs.FinMap.{empty, insert, remove, get, get-insert, get-remove, get-empty}
use Rattle.std.specs.Option.{unwrap_or}
use Rattle.std.specs.Ordering.{eq_by_cmp, is_eq}
use Rattle.std.specs.Prelude.{nat_le}
use Rattle.std.specs.Str.{bytes_eq}
use Rattle.hb_index.proofs.Entries.{by_bytes, differ, equal}
use Rattle.hb_route.specs.Laws.{Steps, sets_to_one, keeps_one_name}
use Rattle.hb_route.specs.Opens.{Counts, open_at, one_more, one_less}

itself : (name : List ℕ) → eq_by_cmp by_bytes name name ≡ true
itself name = ap is_eq (tied_itself nat_list_cmp_total name)

-- names that differ don't tie
apart : (other name : List ℕ) → bytes_eq other name ≡ false → eq_by_cmp by_bytes other name ≡ false
apart other name h =
    elim (eq_by_cmp by_bytes other name) as (λ b. eq_by_cmp by_bytes other name ≡ b → b ≡ false) [
      | true ↦ λ tie. sym ((bytes_eq-Decides other name).1 (differ other name (equal _ tie))) ∙ h
      | false ↦ λ _. refl
    ] refl

module _ (opens : Counts) (name : List ℕ) where
  after_insert : (n : ℕ) → open_at (insert opens name n) name ≡ n
  after_insert n =
      ap (λ o. unwrap_or o 0) (get-insert nat_list_cmp_total opens name n name)
      ∙ ap (λ b. unwrap_or (cond b (Some n) (get opens name)) 0) (itself name)

  stays_after_insert : (n : ℕ) (other : List ℕ) → bytes_eq other name ≡ false → open_at (insert opens name n) other ≡ open_at opens other
  stays_after_insert n other h =
      ap (λ o. unwrap_or o 0) (get-insert nat_list_cmp_total opens name n other)
      ∙ ap (λ b. unwrap_or (cond b (Some n) (get opens other)) 0) (apart other name h)

  after_remove : open_at (remove opens name) name ≡ 0
  after_remove =
      ap (λ o. unwrap_or o 0) (get-remove nat_list_cmp_total opens name name)
      ∙ ap (λ b. unwrap_or (cond b None (get opens name)) 0) (itself name)

  stays_after_remove : (other : List ℕ) → bytes_eq other name ≡ false → open_at (remove opens name) other ≡ open_at opens other
  stays_after_remove other h =
      ap (λ o. unwrap_or o 0) (get-remove nat_list_cmp_total opens name other)
      ∙ ap (λ b. unwrap_or (cond b None (get opens other)) 0) (apart other name h)

  fewer_there : (b : Bool) → nat_le (open_at opens name) 1 ≡ b
      → open_at (cond b (remove opens name) (insert opens name (open_at opens name - 1))) name ≡ open_at opens name - 1
  fewer_there true is = after_remove ∙ grind (arith, nat_tests)
  fewer_there false is = after_insert (open_at opens name - 1)

  fewer_elsewhere : (b : Bool) (other : List ℕ) → bytes_eq other name ≡ false
      → open_at (cond b (remove opens name) (insert opens name (open_at opens name - 1))) other ≡ open_at opens other
  fewer_elsewhere true other h = stays_after_remove other h
  fewer_elsewhere false other h = stays_after_insert (open_at opens name - 1) other h

pub more_steps : Steps one_more (λ n. n + 1)
more_steps opens name = (after_insert opens name (open_at opens name + 1), stays_after_insert opens name (open_at opens name + 1))

pub fewer_steps : Steps one_less (λ n. n - 1)
fewer_steps opens name =
    (fewer_there opens name (nat_le (open_at opens name) 1) refl, fewer_elsewhere opens name (nat_le (open_at opens name) 1))

-- one connection is open under a name
one : Counts
one = insert empty (1 ∷ []) 1

one_open : open_at one (1 ∷ []) ≡ 1
unfolding one
one_open = after_insert empty (1 ∷ []) 1

none_open : open_at empty (1 ∷ []) ≡ 0
none_open = ap (λ (o : Option ℕ). unwrap_or o 0) (get-empty by_bytes (1 ∷ []))

pub sets_to_one_refused : Steps sets_to_one (λ n. n + 1) → ⊥
sets_to_one_refused wrong =
    absurd (omega (arith, (wrong one (1 ∷ [])).0, after_insert one (1 ∷ []) 1, one_open))

pub keeps_one_name_refused : Steps keeps_one_name (λ n. n + 1) → ⊥
keeps_one_name_refused wrong =
    absurd (omega (
      arith,
      (wrong one (2 ∷ [])).1 (1 ∷ []) refl,
      stays_after_insert empty (2 ∷ []) (open_at one (2 ∷ []) + 1) (1 ∷ []) refl,
      one_open,
      none_open,
    ))
