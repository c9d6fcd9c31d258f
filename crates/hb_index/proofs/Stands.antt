-- Which names stand under which numbers after changes.
use Rattle.std.proofs.Common.{◌≡◌, ℕ, Bool, true, false, cond, List, [], ◌∷◌, ◌++◌, Some, None, Result, Ok, Err, is_some, refl, ap, sym, ◌∙◌, eqb-true, eq-eqb}
use Rattle.std.specs.Prelude.{◌==◌, ◌&&◌, ◌||◌, not, OnErr}
use Rattle.std.specs.Ordering.{nat_cmp, is_eq, eq_by_cmp}
use Rattle.std.specs.Cmp.{nat_cmp_total, tied_itself}
use Rattle.std.specs.Cmp.Lexicographic.{nat_list_cmp_total}
use Rattle.std.specs.FinMap.{empty, get, insert, remove, len, get-empty, get-insert, get-remove, len-empty, empty_of_len, nat_cmp-IsAntisymmetric}
use Rattle.hb_index.specs.Index.{Names, Places, names_or_none, names_at, stands_at, with_names, with_name, without_name, with_all, without_all, is_among}
use Rattle.hb_index.proofs.Entries.{by_bytes, equal, differ, put_and_gone, gone_already}

pub on_err : {X Y P : Type 0} (r : Result X Y) → P → OnErr r P
on_err (Ok x) p = tt
on_err (Err y) p = p

-- one number more
pub with_one_more : (m : Places) (name : List ℕ) (ks : List ℕ) (k : ℕ)
    → with_all m name (ks ++ k ∷ []) ≡ with_name (with_all m name ks) k name
with_one_more m name [] k = refl
with_one_more m name (n ∷ ks) k = with_one_more (with_name m n name) name ks k

pub without_one_more : (m : Places) (name : List ℕ) (ks : List ℕ) (kept : List ℕ) (k : ℕ)
    → without_all m name (ks ++ k ∷ []) kept
    ≡ cond (is_among kept k) (without_all m name ks kept) (without_name (without_all m name ks kept) k name)
without_one_more m name [] kept k = refl
without_one_more m name (n ∷ ks) kept k = without_one_more (cond (is_among kept n) m (without_name m n name)) name ks kept k

-- no name stands under the number
pub nothing_less : (m : Places) (k : ℕ) (name : List ℕ) → get m k ≡ None → without_name m k name ≡ m
nothing_less m k name is =
    ap (λ o. with_names m k (remove (names_or_none o) name)) is
    ∙ ap (with_names m k) (gone_already nat_list_cmp_total differ (empty {X = Unit {0}} {R = by_bytes}) name (get-empty by_bytes name))
    ∙ ap (λ n. cond (n == 0) (remove m k) (insert m k empty)) (len-empty by_bytes (Unit {0}))
    ∙ gone_already nat_cmp_total nat_cmp-IsAntisymmetric m k is

-- the last name is taken away, or another one stays
pub last_less : (m : Places) (k : ℕ) (name : List ℕ) (names left : Names) → get m k ≡ Some names → left ≡ remove names name
    → (len left == 0) ≡ true → remove (insert m k left) k ≡ without_name m k name
last_less m k name names left is less none =
    put_and_gone nat_cmp_total nat_cmp-IsAntisymmetric m k left
    ∙ sym (ap (λ o. with_names m k (remove (names_or_none o) name)) is ∙ ap (with_names m k) (sym less)
    ∙ ap (λ b. cond b (remove m k) (insert m k left)) none)

pub one_less : (m : Places) (k : ℕ) (name : List ℕ) (names left : Names) → get m k ≡ Some names → left ≡ remove names name
    → (len left == 0) ≡ false → insert m k left ≡ without_name m k name
one_less m k name names left is less some =
    sym (ap (λ o. with_names m k (remove (names_or_none o) name)) is ∙ ap (with_names m k) (sym less)
    ∙ ap (λ b. cond b (remove m k) (insert m k left)) some)

same_number : (a b : ℕ) → (a == b) ≡ true → a ≡ b
same_number a b h = eqb-true a b h

is_itself : (a : ℕ) → (a == a) ≡ true
is_itself a = eq-eqb a a refl

other_number : (a b : ℕ) → (a == b) ≡ false → eq_by_cmp nat_cmp b a ≡ false
other_number a b h =
    elim (eq_by_cmp nat_cmp b a) as (λ t. eq_by_cmp nat_cmp b a ≡ t → t ≡ false) [
      | true ↦ λ tie. sym (is_itself a) ∙ ap (λ x. a == x) (sym (nat_cmp-IsAntisymmetric b a (equal _ tie))) ∙ h
      | false ↦ λ _. refl
    ] refl

tied_number : (a : ℕ) → eq_by_cmp nat_cmp a a ≡ true
tied_number a = ap (λ o. is_eq o) (tied_itself nat_cmp_total a)

-- the names under a number where others are put under one
names_put : (m : Places) (n : ℕ) (s : Names) (k : ℕ) → names_at (insert m n s) k ≡ cond (n == k) s (names_at m k)
names_put m n s k =
    ap names_or_none (get-insert nat_cmp_total m n s k)
    ∙ elim (n == k) as (λ b. (n == k) ≡ b → names_or_none (cond (eq_by_cmp nat_cmp k n) (Some s) (get m k)) ≡ cond b s (names_at m k)) [
      | true ↦ λ e. ap (λ t. names_or_none (cond t (Some s) (get m k)))
          (ap (λ x. eq_by_cmp nat_cmp k x) (same_number n k e) ∙ tied_number k)
      | false ↦ λ e. ap (λ t. names_or_none (cond t (Some s) (get m k))) (other_number n k e)
    ] refl

names_gone : (m : Places) (n k : ℕ) → names_at (remove m n) k ≡ cond (n == k) empty (names_at m k)
names_gone m n k =
    ap names_or_none (get-remove nat_cmp_total m n k)
    ∙ elim (n == k) as (λ b. (n == k) ≡ b → names_or_none (cond (eq_by_cmp nat_cmp k n) None (get m k)) ≡ cond b empty (names_at m k)) [
      | true ↦ λ e. ap (λ t. names_or_none (cond t None (get m k))) (ap (λ x. eq_by_cmp nat_cmp k x) (same_number n k e) ∙ tied_number k)
      | false ↦ λ e. ap (λ t. names_or_none (cond t None (get m k))) (other_number n k e)
    ] refl

no_names : (s : Names) → (len s == 0) ≡ true → s ≡ empty
no_names s h = empty_of_len s (same_number (len s) 0 h)

names_with : (m : Places) (n : ℕ) (s : Names) (k : ℕ) → names_at (with_names m n s) k ≡ cond (n == k) s (names_at m k)
names_with m n s k =
    elim (len s == 0) as (λ b. (len s == 0) ≡ b → names_at (cond b (remove m n) (insert m n s)) k ≡ cond (n == k) s (names_at m k)) [
      | true ↦ λ none. names_gone m n k ∙ ap (λ x. cond (n == k) x (names_at m k)) (sym (no_names s none))
      | false ↦ λ _. names_put m n s k
    ] refl

swap_or : (a b c : Bool) → (a || (b || c)) ≡ ((b || a) || c)
swap_or true true c = refl
swap_or true false c = refl
swap_or false true c = refl
swap_or false false c = refl

kept_anyway : (a b : Bool) → (not (a && false) && b) ≡ b
kept_anyway true b = refl
kept_anyway false b = refl

nothing_left : (a : Bool) → (a && false) ≡ false
nothing_left true = refl
nothing_left false = refl

module _ (name : List ℕ) where
  -- it is the name
  abbrev pub it : List ℕ → Bool
  it q = eq_by_cmp by_bytes q name

  stands_with : (m : Places) (n k : ℕ) (q : List ℕ) → stands_at (with_name m n name) k q ≡ ((it q && (n == k)) || stands_at m k q)
  stands_with m n k q =
      ap (λ s. is_some (get s q)) (names_put m n (insert (names_at m n) name tt) k)
      ∙ elim (n == k) as (λ b. (n == k) ≡ b
      → is_some (get (cond b (insert (names_at m n) name tt) (names_at m k)) q) ≡ ((it q && b) || stands_at m k q)) [
        | true ↦ λ e. ap is_some (get-insert nat_list_cmp_total (names_at m n) name tt q)
            ∙ elim (it q) as (λ t. is_some (cond t (Some tt) (get (names_at m n) q)) ≡ ((t && true) || stands_at m k q)) [
              | true ↦ refl
              | false ↦ ap (λ x. stands_at m x q) (same_number n k e)
            ]
        | false ↦ λ _. elim (it q) as (λ t. stands_at m k q ≡ ((t && false) || stands_at m k q)) [
          | true ↦ refl
          | false ↦ refl
        ]
      ] refl

  stands_without : (m : Places) (n k : ℕ) (q : List ℕ)
      → stands_at (without_name m n name) k q ≡ (not (it q && (n == k)) && stands_at m k q)
  stands_without m n k q =
      ap (λ s. is_some (get s q)) (names_with m n (remove (names_at m n) name) k)
      ∙ elim (n == k) as (λ b. (n == k) ≡ b
      → is_some (get (cond b (remove (names_at m n) name) (names_at m k)) q) ≡ (not (it q && b) && stands_at m k q)) [
        | true ↦ λ e. ap is_some (get-remove nat_list_cmp_total (names_at m n) name q)
            ∙ elim (it q) as (λ t. is_some (cond t None (get (names_at m n) q)) ≡ (not (t && true) && stands_at m k q)) [
              | true ↦ refl
              | false ↦ ap (λ x. stands_at m x q) (same_number n k e)
            ]
        | false ↦ λ _. elim (it q) as (λ t. stands_at m k q ≡ (not (t && false) && stands_at m k q)) [
          | true ↦ refl
          | false ↦ refl
        ]
      ] refl

  -- another name stands where it stood
  pub other_with : (ks : List ℕ) (m : Places) (k : ℕ) (q : List ℕ) → it q ≡ false → stands_at (with_all m name ks) k q ≡ stands_at m k q
  other_with [] m k q other = refl
  other_with (n ∷ ks) m k q other =
      other_with ks (with_name m n name) k q other ∙ stands_with m n k q
      ∙ ap (λ t. (t && (n == k)) || stands_at m k q) other

  pub other_without : (ks : List ℕ) (kept : List ℕ) (m : Places) (k : ℕ) (q : List ℕ) → it q ≡ false
      → stands_at (without_all m name ks kept) k q ≡ stands_at m k q
  other_without [] kept m k q other = refl
  other_without (n ∷ ks) kept m k q other =
      other_without ks kept (cond (is_among kept n) m (without_name m n name)) k q other
      ∙ elim (is_among kept n) as (λ b. stands_at (cond b m (without_name m n name)) k q ≡ stands_at m k q) [
        | true ↦ refl
        | false ↦ stands_without m n k q ∙ ap (λ t. not (t && (n == k)) && stands_at m k q) other
      ]

  -- the name stands under the numbers more, and not under those less
  pub it_with : (ks : List ℕ) (m : Places) (k : ℕ) (q : List ℕ) → it q ≡ true
      → stands_at (with_all m name ks) k q ≡ (is_among ks k || stands_at m k q)
  it_with [] m k q here = refl
  it_with (n ∷ ks) m k q here =
      it_with ks (with_name m n name) k q here
      ∙ ap (λ b. is_among ks k || b) (stands_with m n k q ∙ ap (λ t. (t && (n == k)) || stands_at m k q) here)
      ∙ swap_or (is_among ks k) (n == k) (stands_at m k q)

  pub it_without : (ks : List ℕ) (kept : List ℕ) (m : Places) (k : ℕ) (q : List ℕ) → it q ≡ true
      → stands_at (without_all m name ks kept) k q ≡ (not (is_among ks k && not (is_among kept k)) && stands_at m k q)
  it_without [] kept m k q here = refl
  it_without (n ∷ ks) kept m k q here =
      it_without ks kept (cond (is_among kept n) m (without_name m n name)) k q here
      ∙ elim (n == k) as (λ b. (n == k) ≡ b
      → (not (is_among ks k && not (is_among kept k)) && stands_at (cond (is_among kept n) m (without_name m n name)) k q)
      ≡ (not ((b || is_among ks k) && not (is_among kept k)) && stands_at m k q)) [
        | true ↦ λ e. ap (λ x. not (is_among ks k && not (is_among kept k)) && stands_at
            (cond (is_among kept x) m (without_name m n name)) k q)
            (same_number n k e)
            ∙ elim (is_among kept k) as (λ b. (not (is_among ks k && not b) && stands_at (cond b m (without_name m n name)) k q)
            ≡ (not (not b) && stands_at m k q)) [
              | true ↦ kept_anyway (is_among ks k) (stands_at m k q)
              | false ↦ ap (λ x. not (is_among ks k && true) && x)
                  (stands_without m n k q ∙ ap (λ t. not (t && (n == k)) && stands_at m k q) here
                  ∙ ap (λ t. not t && stands_at m k q) e)
                  ∙ nothing_left (not (is_among ks k && true))
            ]
        | false ↦ λ e. ap (λ x. not (is_among ks k && not (is_among kept k)) && x)
            (elim (is_among kept n) as (λ b. stands_at (cond b m (without_name m n name)) k q ≡ stands_at m k q) [
              | true ↦ refl
              | false ↦ stands_without m n k q ∙ ap (λ t. not (it q && t) && stands_at m k q) e
                  ∙ elim (it q) as (λ t. (not (t && false) && stands_at m k q) ≡ stands_at m k q) [ true ↦ refl | false ↦ refl ]
            ])
      ] refl
