-- What the map of an index and its cells has under each number, after each change of both.
use Rattle.std.proofs.Common.{◌≡◌, ◌≢◌, ℕ, ◌<◌, ◌≤◌, ◌^◌, eqb, Bool, cond, true, false, List, [], ◌∷◌, Option, Some, None, is_some, unwrap_or, IsSome, IfSome, IfNone, Result, Ok, Err, OnErr, MutBor, ◌⊎◌, inl, inr, refl, sym, ap, subst, ◌∙◌, option_and_then, arith}
use Rattle.std.specs.Option.{option_copied_mut, option_map}
use Rattle.std.specs.Ordering.{nat_cmp}
use Rattle.std.specs.Cmp.{nat_cmp_total, unsigned_tied}
use Rattle.std.specs.FinMap.{FinMap, empty, entries, get, insert, remove, find, get-entries, get-empty, get-insert, get-remove, same_map, nat_cmp-IsAntisymmetric}
use Rattle.std.proofs.lemmas.Bool.{false≢true, cases_eq}
use Rattle.hb_map.specs.Keyed.{IsFirstFrom}
use Rattle.hb_map.proofs.Laws.{put_here, put_elsewhere, removed_here, removed_elsewhere}
use Rattle.slab.specs.Slab as slab
use Rattle.slab.specs.Slab.{Slab, Updates}
use Rattle.hb_slots.specs.Joined.{placed, joined_entries, joined, IsIndex}

-- a key of 32 bits is its own number
pub same_first : {T : Type 0} (m : FinMap nat_cmp T) (from : ℕ) (first : Option ℕ) → IsFirstFrom m from (option_map (λ k. k) first)
    → IsFirstFrom m from first
same_first m from None is = is
same_first m from (Some key) is = is

module _ {T : Type 0} where
  get_placed : (m : FinMap nat_cmp T) (n : ℕ) (o : Option T) (q : ℕ) → get (placed m n o) q ≡ cond (eqb q n) o (get m q)
  get_placed m n None q = get-remove nat_cmp_total m n q ∙ ap (λ b. cond b None (get m q)) (unsigned_tied q n)
  get_placed m n (Some v) q = get-insert nat_cmp_total m n v q ∙ ap (λ b. cond b (Some v) (get m q)) (unsigned_tied q n)

  by_test : (cells : Slab T) (b : Bool) (key : ℕ) (o : Option ℕ)
      → cond b (slab.get cells key) (option_and_then (slab.get cells) o) ≡ option_and_then (slab.get cells) (cond b (Some key) o)
  by_test cells true key o = refl
  by_test cells false key o = refl

  get_joined_entries : (cells : Slab T) (es : List (ℕ × ℕ)) (q : ℕ)
      → get (joined_entries cells es) q ≡ option_and_then (slab.get cells) (find nat_cmp q es)
  get_joined_entries cells [] q = get-empty nat_cmp q
  get_joined_entries cells (e ∷ es) q =
      get_placed (joined_entries cells es) e.0 (slab.get cells e.1) q
      ∙ ap (cond (eqb q e.0) (slab.get cells e.1)) (get_joined_entries cells es q)
      ∙ by_test cells (eqb q e.0) e.1 (find nat_cmp q es)
      ∙ ap (λ b. option_and_then (slab.get cells) (cond b (Some e.1) (find nat_cmp q es))) (sym (unsigned_tied q e.0))

  -- the map has under a number what its cell has
  pub get_joined : (index : FinMap nat_cmp ℕ) (cells : Slab T) (q : ℕ)
      → get (joined index cells) q ≡ option_and_then (slab.get cells) (get index q)
  unfolding joined
  get_joined index cells q =
      get_joined_entries cells (entries index) q ∙ ap (option_and_then (slab.get cells)) (sym (get-entries index q))

  -- maps that answer alike are one
  same : (m n : FinMap nat_cmp T) → ((q : ℕ) → get m q ≡ get n q) → m ≡ n
  same = same_map nat_cmp_total nat_cmp-IsAntisymmetric

some_is : (a b : ℕ) → Some a ≡ Some b → a ≡ b
some_is a b e = ap (λ o. unwrap_or o a) e

not_none : {A : Type 0} (o : Option A) → o ≡ None → IsSome o → ⊥
not_none o none some = false≢true (sym (ap is_some none) ∙ some)

-- what an index has once a number was put, and once one was taken out
put_cases : (index : FinMap nat_cmp ℕ) (n key m k : ℕ) → get (insert index n key) m ≡ Some k
    → ((m ≡ n) × (k ≡ key)) ⊎ (get index m ≡ Some k)
put_cases index n key m k there =
    elim (cases_eq m n) [
      | inl here ↦ inl (here, some_is k key (sym there ∙ ap (get (insert index n key)) here ∙ put_here index n key))
      | inr other ↦ inr (sym (put_elsewhere index n key m other) ∙ there)
    ]

removed_cases : (index : FinMap nat_cmp ℕ) (n m k : ℕ) → get (remove index n) m ≡ Some k → (m ≢ n) × (get index m ≡ Some k)
removed_cases index n m k there =
    elim (cases_eq m n) [
      | inl here ↦ absurd (not_none (get (remove index n) m) (ap (get (remove index n)) here ∙ removed_here index n) (ap is_some there))
      | inr other ↦ (other, sym (removed_elsewhere index n m other) ∙ there)
    ]

module _ {T : Type 0} (index : FinMap nat_cmp ℕ) (cells : Slab T) (is : IsIndex index cells) where
  -- a cell that isn't this one keeps its value
  kept : (cells' : Slab T) (key : ℕ) (slot : Option T) → Updates cells cells' key slot
      → (o : Option ℕ) → o ≢ Some key → option_and_then (slab.get cells') o ≡ option_and_then (slab.get cells) o
  kept cells' key slot change None other = refl
  kept cells' key slot change (Some k) other = change.others k (λ e. other (ap Some e))

  -- no number has an empty cell
  unused : (key : ℕ) → slab.get cells key ≡ None → (q : ℕ) → get index q ≢ Some key
  unused key vacant q there = not_none (slab.get cells key) vacant (is.full q key there)

  -- a number of the index has a value
  pub at_key : (n key : ℕ) → get index n ≡ Some key → get (joined index cells) n ≡ slab.get cells key
  at_key n key there = get_joined index cells n ∙ ap (option_and_then (slab.get cells)) there

  some_by : (n : ℕ) (o : Option ℕ) → get index n ≡ o → is_some (option_and_then (slab.get cells) o) ≡ is_some o
  some_by n None there = refl
  some_by n (Some key) there = is.full n key there

  -- the map has a number where the index has it
  pub is_some_joined : (n : ℕ) → is_some (get (joined index cells) n) ≡ is_some (get index n)
  is_some_joined n = ap is_some (get_joined index cells n) ∙ some_by n (get index n) refl ∙ ap is_some refl

  pub none_joined : (n : ℕ) → get index n ≡ None → get (joined index cells) n ≡ None
  none_joined n none = get_joined index cells n ∙ ap (option_and_then (slab.get cells)) none

  pub narrow_joined : (n : ℕ) → IsSome (get (joined index cells) n) → n < 2 ^ 32
  narrow_joined n some = is.narrow n (sym (is_some_joined n) ∙ some)

  pub none_beyond : (n : ℕ) → 2 ^ 32 ≤ n → get (joined index cells) n ≡ None
  none_beyond n le = elim (get (joined index cells) n) as (λ o. get (joined index cells) n ≡ o → o ≡ None) [
    | None ↦ λ _. refl
    | Some v ↦ λ there. let lt = narrow_joined n (ap is_some there) in absurd (omega arith)
  ] refl

  pub first_joined : (from : ℕ) (first : Option ℕ) → IsFirstFrom index from first → IsFirstFrom (joined index cells) from first
  first_joined from None none = λ key le. none_joined key (none key le)
  first_joined from (Some first) is = (is.0, is_some_joined first ∙ is.1, λ key le lt. none_joined key (is.2 key le lt))

  -- a value goes into a cell that was empty, under a new number
  module _ (cells' : Slab T) (n key : ℕ) (v : T) (vacant : slab.get cells key ≡ None) (change : Updates cells cells' key (Some v)) where
    pub joined_add : joined (insert index n key) cells' ≡ insert (joined index cells) n v
    joined_add = same _ _ (λ q. get_joined (insert index n key) cells' q ∙ elim (cases_eq q n) [
      | inl here ↦
          ap (option_and_then (slab.get cells')) (ap (get (insert index n key)) here ∙ put_here index n key)
          ∙ change.changed ∙ sym (ap (get (insert (joined index cells) n v)) here ∙ put_here (joined index cells) n v)
      | inr other ↦
          ap (option_and_then (slab.get cells')) (put_elsewhere index n key q other)
          ∙ kept cells' key (Some v) change (get index q) (unused key vacant q)
          ∙ sym (get_joined index cells q) ∙ sym (put_elsewhere (joined index cells) n v q other)
    ])

    pub index_add : n < 2 ^ 32 → IsIndex (insert index n key) cells'
    index_add fits = record {
      full = λ m k there. elim (put_cases index n key m k there) [
        | inl new ↦ ap (λ k. is_some (slab.get cells' k)) new.1 ∙ ap is_some change.changed
        | inr old ↦ ap is_some (change.others k (λ e. unused key vacant m (old ∙ ap Some e))) ∙ is.full m k old
      ];
      apart = λ a b k first second. elim (put_cases index n key a k first) [
        | inl new ↦ elim (put_cases index n key b k second) [
          | inl again ↦ new.0 ∙ sym again.0
          | inr old ↦ absurd (unused key vacant b (old ∙ ap Some new.1))
        ]
        | inr old ↦ elim (put_cases index n key b k second) [
          | inl new ↦ absurd (unused key vacant a (old ∙ ap Some new.1))
          | inr other ↦ is.apart a b k old other
        ]
      ];
      narrow = λ m some. elim (cases_eq m n) [
        | inl here ↦ subst (λ m. m < 2 ^ 32) (sym here) fits
        | inr other ↦ is.narrow m (sym (ap is_some (put_elsewhere index n key m other)) ∙ some)
      ];
    }

  -- the cells have the same values
  module _ (cells' : Slab T) (alike : (key : ℕ) → slab.get cells' key ≡ slab.get cells key) where
    alike_by : (o : Option ℕ) → option_and_then (slab.get cells') o ≡ option_and_then (slab.get cells) o
    alike_by None = refl
    alike_by (Some key) = alike key

    pub joined_alike : joined index cells' ≡ joined index cells
    joined_alike = same _ _ (λ q. get_joined index cells' q ∙ alike_by (get index q) ∙ sym (get_joined index cells q))

    pub index_alike : IsIndex index cells'
    index_alike = record { full = λ n key there. ap is_some (alike key) ∙ is.full n key there; apart = is.apart; narrow = is.narrow }

  -- a number that has no cell is taken out
  module _ (n : ℕ) (none : get index n ≡ None) where
    pub joined_without : joined (remove index n) cells ≡ remove (joined index cells) n
    joined_without = same _ _ (λ q. get_joined (remove index n) cells q ∙ elim (cases_eq q n) [
      | inl here ↦
          ap (option_and_then (slab.get cells)) (ap (get (remove index n)) here ∙ removed_here index n)
          ∙ sym (ap (get (remove (joined index cells) n)) here ∙ removed_here (joined index cells) n)
      | inr other ↦
          ap (option_and_then (slab.get cells)) (removed_elsewhere index n q other)
          ∙ sym (get_joined index cells q) ∙ sym (removed_elsewhere (joined index cells) n q other)
    ])

    pub index_without : IsIndex (remove index n) cells
    index_without = record {
      full = λ m k there. is.full m k (removed_cases index n m k there).1;
      apart = λ a b k first second. is.apart a b k (removed_cases index n a k first).1 (removed_cases index n b k second).1;
      narrow = λ m some. elim (cases_eq m n) [
        | inl here ↦ absurd (not_none (get (remove index n) m) (ap (get (remove index n)) here ∙ removed_here index n) some)
        | inr other ↦ is.narrow m (sym (ap is_some (removed_elsewhere index n m other)) ∙ some)
      ];
    }

  -- the cell of a number of the index changes
  module _ (cells' : Slab T) (n key : ℕ) (there : get index n ≡ Some key) where
    only_here : (q : ℕ) → q ≢ n → get index q ≢ Some key
    only_here q other has = other (is.apart q n key has there)

    -- its value is another one
    pub joined_write : (v : T) → Updates cells cells' key (Some v) → joined index cells' ≡ insert (joined index cells) n v
    joined_write v change = same _ _ (λ q. get_joined index cells' q ∙ elim (cases_eq q n) [
      | inl here ↦
          ap (option_and_then (slab.get cells')) (ap (get index) here ∙ there)
          ∙ change.changed ∙ sym (ap (get (insert (joined index cells) n v)) here ∙ put_here (joined index cells) n v)
      | inr other ↦
          kept cells' key (Some v) change (get index q) (only_here q other)
          ∙ sym (get_joined index cells q) ∙ sym (put_elsewhere (joined index cells) n v q other)
    ])

    pub index_write : (v : T) → Updates cells cells' key (Some v) → IsIndex index cells'
    index_write v change = record {
      full = λ m k has. elim (cases_eq k key) [
        | inl here ↦ ap (λ k. is_some (slab.get cells' k)) here ∙ ap is_some change.changed
        | inr other ↦ ap is_some (change.others k other) ∙ is.full m k has
      ];
      apart = is.apart;
      narrow = is.narrow;
    }

    -- its value is taken out
    pub joined_remove : Updates cells cells' key None → joined (remove index n) cells' ≡ remove (joined index cells) n
    joined_remove change = same _ _ (λ q. get_joined (remove index n) cells' q ∙ elim (cases_eq q n) [
      | inl here ↦
          ap (option_and_then (slab.get cells')) (ap (get (remove index n)) here ∙ removed_here index n)
          ∙ sym (ap (get (remove (joined index cells) n)) here ∙ removed_here (joined index cells) n)
      | inr other ↦
          ap (option_and_then (slab.get cells')) (removed_elsewhere index n q other)
          ∙ kept cells' key None change (get index q) (only_here q other)
          ∙ sym (get_joined index cells q) ∙ sym (removed_elsewhere (joined index cells) n q other)
    ])

    pub index_remove : Updates cells cells' key None → IsIndex (remove index n) cells'
    index_remove change = record {
      full = λ m k has.
          let old = removed_cases index n m k has in
          ap is_some (change.others k (λ e. only_here m old.0 (old.1 ∙ ap Some e))) ∙ is.full m k old.1;
      apart = λ a b k first second. is.apart a b k (removed_cases index n a k first).1 (removed_cases index n b k second).1;
      narrow = λ m some. elim (cases_eq m n) [
        | inl here ↦ absurd (not_none (get (remove index n) m) (ap (get (remove index n)) here ∙ removed_here index n) some)
        | inr other ↦ is.narrow m (sym (ap is_some (removed_elsewhere index n m other)) ∙ some)
      ];
    }

-- the empty index
pub joined_empty : {T : Type 0} (cells : Slab T) → joined empty cells ≡ empty
joined_empty cells = same _ _ (λ q. get_joined empty cells q
    ∙ ap (option_and_then (slab.get cells)) (get-empty nat_cmp q) ∙ sym (get-empty nat_cmp q))

pub index_empty : {T : Type 0} (cells : Slab T) → IsIndex empty cells
index_empty cells = record {
  full = λ n key there. absurd (not_none (get empty n) (get-empty nat_cmp n) (ap is_some there));
  apart = λ a b key first second. absurd (not_none (get empty a) (get-empty nat_cmp a) (ap is_some first));
  narrow = λ n some. absurd (not_none (get empty n) (get-empty nat_cmp n) some);
}

-- what an error leaves
pub on_err : {X E A : Type 0} (r : Result X E) → A → OnErr r A
on_err (Ok x) a = tt
on_err (Err e) a = a

-- what is lent is what is found
pub lent_value : {T : Type 0} {o : Option T} (r : Option (MutBor T)) → option_copied_mut r ≡ o → IfSome r (λ item. o ≡ Some item.now)
lent_value None is = tt
lent_value (Some item) is = sym is

pub lent_none : {T : Type 0} {o : Option T} (r : Option (MutBor T)) → option_copied_mut r ≡ o → IfNone r (o ≡ None)
lent_none None is = sym is
lent_none (Some item) is = tt
