-- The list of numbers, and the places that aren't on it.
use Rattle.std.proofs.Common.{◌≡◌, ◌≤◌, ℕ, suc, ◌+◌, ◌==◌, Bool, true, false, ◌||◌, cond, List, [], ◌∷◌, ◌++◌, length, Option, Some, None, refl, ap, sym, ◌∙◌, subst, arith}
use Rattle.std.specs.List.{sum_by}
use Rattle.std.specs.Map.{values_of, remove_entry}
use Rattle.std.specs.List.Sorted.{IsPermutation}
use Rattle.std.proofs.lemmas.Bool.{eq-eqb, eqb-true}
use Rattle.std.proofs.lemmas.List.Folds.{list_any-append}
use Rattle.std.proofs.lemmas.List.Sums.{sum_by-cons}
use Rattle.std.proofs.lemmas.Map.Entries.{sum_by-remove_entry, sum_by_values_permutation}
use Rattle.hb_ready.specs.declared.link.Place.{Place}
use Rattle.hb_ready.specs.Kept.{has, off_list, is_marked}

or-true : (b : Bool) → (b || true) ≡ true
or-true true = refl
or-true false = refl

kept_by : (a b : Bool) → a ≡ true → (a || b) ≡ true
kept_by true b is = refl
kept_by false b is = absurd cc

pub has-more : (xs : List ℕ) (n l : ℕ) → has xs l ≡ true → has (xs ++ n ∷ []) l ≡ true
has-more xs n l is = list_any-append (λ x. x == l) xs (n ∷ []) ∙ kept_by (has xs l) _ is

pub has-end : (xs : List ℕ) (n : ℕ) → has (xs ++ n ∷ []) n ≡ true
has-end xs n =
    list_any-append (λ x. x == n) xs (n ∷ []) ∙ ap (λ (b : Bool). has xs n || (b || false)) (eq-eqb n n refl) ∙ or-true (has xs n)

off-one : (p : Place) → off_list p ≤ 1
off-one p = by p.is_listed
  where
    by : (b : Bool) → cond b 0 1 ≤ 1
    by true = omega arith
    by false = omega arith

pub off-at_most : (es : List (ℕ × Place)) → sum_by off_list (values_of es) ≤ length es
off-at_most [] = omega arith
off-at_most (e ∷ es) =
    subst (λ (n : ℕ). n ≤ suc (length es)) (sym (sum_by-cons off_list e.1 (values_of es)))
    (both _ _ _ (off-one e.1) (off-at_most es))
  where
    both : (a b n : ℕ) → a ≤ 1 → b ≤ n → a + b ≤ suc n
    both a b n one more = omega arith

pub off-removed : (test : ℕ → Bool) (old new : List (ℕ × Place)) → IsPermutation (remove_entry test old) new
    → sum_by off_list (values_of new) ≤ sum_by off_list (values_of old)
off-removed test old new same =
    let permuted = sum_by_values_permutation off_list (remove_entry test old) new same in
    let removed = sum_by-remove_entry off_list test old in omega arith

-- a place that is marked is still on the list once another number stands at its end
pub marked_behind : (n l : ℕ) (old : Option Place) (p : Place) (xs : List ℕ) (b : Bool) → (n == l) ≡ b
    → (is_marked old ≡ true → has xs l ≡ true) → is_marked (cond b (Some p) old) ≡ true → has (xs ++ n ∷ []) l ≡ true
marked_behind n l old p xs true same had marked =
    subst (λ (k : ℕ). has (xs ++ n ∷ []) k ≡ true) (eqb-true n l same) (has-end xs n)
marked_behind n l old p xs false same had marked = has-more xs n l (had marked)

pub marked_without : (b : Bool) (old : Option Place) → is_marked (cond b None old) ≡ true → is_marked old ≡ true
marked_without true old is = absurd cc
marked_without false old is = is
