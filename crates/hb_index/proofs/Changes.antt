-- The index of values by their numbers after changes.
use Rattle.std.proofs.Common.{◌≡◌, ℕ, Bool, true, false, cond, List, [], ◌∷◌, ◌++◌, take, drop, Option, Some, None, is_some, refl, ap, sym, ◌∙◌, arith}
use Rattle.std.proofs.lemmas.Grind.{common_steps}
use Rattle.std.specs.Prelude.{◌==◌, ◌&&◌, ◌||◌, not}
use Rattle.std.specs.Ordering.{nat_cmp}
use Rattle.std.specs.Cmp.Lexicographic.{nat_list_cmp_total}
use Rattle.std.specs.FinMap.{empty, get, insert, remove, get-empty, get-insert, get-remove}
use Rattle.hb_index.specs.Index.{Names, Places, names_or_none, stands_at, with_all, without_all, is_among}
use Rattle.hb_index.specs.Indexed.{numbers_in, has_number, IsIndexed, AreNamesAt}
use Rattle.hb_index.specs.Named.{Named, IsFirstBehind}
use Rattle.hb_index.proofs.Entries.{by_bytes, differ, equal}
use Rattle.hb_index.proofs.Stands.{it, it_with, it_without, other_with, other_without}
use Rattle.hb_index.proofs.Undone.{never}

put_bits : (a b : Bool) → (not (b && not a) && (a || b)) ≡ a
put_bits true true = refl
put_bits true false = refl
put_bits false true = refl
put_bits false false = refl

back_bits : (some all b : Bool) → (some ≡ true → all ≡ true) → (not (all && not b) && (some || b)) ≡ b
back_bits true true true h = refl
back_bits true true false h = refl
back_bits true false true h = refl
back_bits true false false h = absurd (never (h refl))
back_bits false true true h = refl
back_bits false true false h = refl
back_bits false false true h = refl
back_bits false false false h = refl

gone_bits : (b : Bool) → (not (b && true) && b) ≡ false
gone_bits true = refl
gone_bits false = refl

among_more : (ks ls : List ℕ) (k : ℕ) → is_among ks k ≡ true → is_among (ks ++ ls) k ≡ true
among_more [] ls k h = absurd (never h)
among_more (n ∷ ks) ls k h =
    elim (n == k) as (λ b. (b || is_among ks k) ≡ true → (b || is_among (ks ++ ls) k) ≡ true) [
      | true ↦ λ _. refl
      | false ↦ λ there. among_more ks ls k there
    ] h

among_front : (n : ℕ) (ks : List ℕ) (k : ℕ) → is_among (take n ks) k ≡ true → is_among ks k ≡ true
among_front n ks k h =
    let whole : take n ks ++ drop n ks ≡ ks = grind (arith, common_steps) in
    ap (λ l. is_among l k) (sym whole) ∙ among_more (take n ks) (drop n ks) k h

module _ {T : Type 0} (numbers : T → List ℕ) (m : Named T) (places : Places) (ix : IsIndexed numbers m places) (name : List ℕ) where
  abbrev before : List ℕ
  before = numbers_in numbers (get m name)

  here : (k : ℕ) (q : List ℕ) → it name q ≡ true → is_among (numbers_in numbers (get m q)) k ≡ is_among before k
  here k q e = ap (λ n. is_among (numbers_in numbers (get m n)) k) (differ q name (equal _ e))

  -- a value was put under the name
  pub put_indexed : (item : T)
      → IsIndexed numbers (insert m name item) (without_all (with_all places name (numbers item)) name before (numbers item))
  put_indexed item = λ k q.
      let after = numbers item in
      elim (it name q) as (λ b. it name q ≡ b → stands_at (without_all (with_all places name after) name before after) k q
      ≡ is_among (numbers_in numbers (get (insert m name item) q)) k) [
        | true ↦ λ e. it_without name before after (with_all places name after) k q e
            ∙ ap (λ s. not (is_among before k && not (is_among after k)) && s)
            (it_with name after places k q e ∙ ap (λ s. is_among after k || s) (ix k q ∙ here k q e))
            ∙ put_bits (is_among after k) (is_among before k)
            ∙ sym (ap (λ o. is_among (numbers_in numbers o) k) (get-insert nat_list_cmp_total m name item q
            ∙ ap (λ t. cond t (Some item) (get m q)) e))
        | false ↦ λ e. other_without name before after (with_all places name after) k q e ∙ other_with name after places k q e ∙ ix k q
            ∙ sym (ap (λ o. is_among (numbers_in numbers o) k) (get-insert nat_list_cmp_total m name item q
            ∙ ap (λ t. cond t (Some item) (get m q)) e))
      ] refl

  -- a value was put that has the numbers of the one before
  pub stays_indexed : (item : T) → before ≡ numbers item → IsIndexed numbers (insert m name item) places
  stays_indexed item same = λ k q.
      elim (it name q) as (λ b. it name q ≡ b → stands_at places k q ≡ is_among (numbers_in numbers (get (insert m name item) q)) k) [
        | true ↦ λ e. ix k q ∙ here k q e ∙ ap (λ ns. is_among ns k) same
            ∙ sym (ap (λ o. is_among (numbers_in numbers o) k) (get-insert nat_list_cmp_total m name item q
            ∙ ap (λ t. cond t (Some item) (get m q)) e))
        | false ↦ λ e. ix k q
            ∙ sym (ap (λ o. is_among (numbers_in numbers o) k) (get-insert nat_list_cmp_total m name item q
            ∙ ap (λ t. cond t (Some item) (get m q)) e))
      ] refl

  -- memory was wanting, and the numbers that were put first are taken back
  pub back_indexed : (after : List ℕ) (n : ℕ) → IsIndexed numbers m (without_all (with_all places name (take n after)) name after before)
  back_indexed after n = λ k q.
      elim (it name q) as (λ b. it name q ≡ b → stands_at (without_all (with_all places name (take n after)) name after before) k q
      ≡ is_among (numbers_in numbers (get m q)) k) [
        | true ↦ λ e. it_without name after before (with_all places name (take n after)) k q e
            ∙ ap (λ s. not (is_among after k && not (is_among before k)) && s)
            (it_with name (take n after) places k q e ∙ ap (λ s. is_among (take n after) k || s) (ix k q ∙ here k q e))
            ∙ back_bits (is_among (take n after) k) (is_among after k) (is_among before k) (among_front n after k)
            ∙ sym (here k q e)
        | false ↦ λ e. other_without name after before (with_all places name (take n after)) k q e
            ∙ other_with name (take n after) places k q e ∙ ix k q
      ] refl

  -- the value under the name was taken out
  pub gone_indexed : IsIndexed numbers (remove m name) (without_all places name before [])
  gone_indexed = λ k q.
      elim (it name q) as (λ b. it name q ≡ b → stands_at (without_all places name before []) k q
      ≡ is_among (numbers_in numbers (get (remove m name) q)) k) [
        | true ↦ λ e. it_without name before [] places k q e
            ∙ ap (λ s. not (is_among before k && true) && s) (ix k q ∙ here k q e)
            ∙ gone_bits (is_among before k)
            ∙ sym (ap (λ o. is_among (numbers_in numbers o) k) (get-remove nat_list_cmp_total m name q
            ∙ ap (λ t. cond t None (get m q)) e))
        | false ↦ λ e. other_without name before [] places k q e ∙ ix k q
            ∙ sym (ap (λ o. is_among (numbers_in numbers o) k) (get-remove nat_list_cmp_total m name q
            ∙ ap (λ t. cond t None (get m q)) e))
      ] refl

module _ {T : Type 0} (numbers : T → List ℕ) where
  -- nothing is held
  pub empty_indexed : IsIndexed numbers (empty {X = T} {R = by_bytes}) (empty {X = Names} {R = nat_cmp})
  empty_indexed = λ k name.
      ap (λ o. is_some (get (names_or_none o) name)) (get-empty {X = Names} nat_cmp k)
      ∙ ap is_some (get-empty {X = Unit {0}} by_bytes name)
      ∙ sym (ap (λ o. is_among (numbers_in numbers o) k) (get-empty {X = T} by_bytes name))

  pub same_indexed : (m n : Named T) (places others : Places) → m ≡ n → places ≡ others → IsIndexed numbers n others
      → IsIndexed numbers m places
  same_indexed m n places others e f ix = λ k name.
      ap (λ p. stands_at p k name) f ∙ ix k name ∙ sym (ap (λ x. is_among (numbers_in numbers (get x name)) k) e)

  -- no value has the number
  pub none_with : (m : Named T) (k : ℕ) → AreNamesAt numbers m k None → (other : Option (List ℕ))
      → IsFirstBehind (has_number numbers m k) other None
  none_with m k all other = λ name has.
      absurd (never (sym (ap is_some (get-empty {X = Unit {0}} by_bytes name)) ∙ all name ∙ has))
