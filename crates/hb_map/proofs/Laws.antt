-- What a map under numbers has after each change, at the changed key and at any other, and how many keys it has.
use Rattle.std.proofs.Common.{◌≡◌, ℕ, ◌+◌, ◌-◌, ◌<◌, zero, suc, Bool, true, false, cond, Some, None, is_some, IsSome, ◌≢◌, refl, ap, sym, ◌∙◌, arith}
use Rattle.std.specs.Ordering.{nat_cmp}
use Rattle.std.specs.Cmp.{nat_cmp_total, unsigned_tied}
use Rattle.std.specs.FinMap.{FinMap, get, insert, remove, len, len-empty, empty_of_len, get-empty, get-insert, get-remove, len-insert, len-remove}
use Rattle.std.proofs.lemmas.Bool.{eq-eqb, ne_eqb}
use Rattle.hb_map.specs.Keyed.{written}

module _ {T : Type 0} (m : FinMap nat_cmp T) (k : ℕ) where
  pub put_here : (v : T) → get (insert m k v) k ≡ Some v
  put_here v = get-insert nat_cmp_total m k v k ∙ ap (λ b. cond b (Some v) (get m k)) (unsigned_tied k k ∙ eq-eqb k k refl)

  pub put_elsewhere : (v : T) (q : ℕ) → q ≢ k → get (insert m k v) q ≡ get m q
  put_elsewhere v q apart = get-insert nat_cmp_total m k v q ∙ ap (λ b. cond b (Some v) (get m q)) (unsigned_tied q k ∙ ne_eqb q k apart)

  pub removed_here : get (remove m k) k ≡ None
  removed_here = get-remove nat_cmp_total m k k ∙ ap (λ b. cond b None (get m k)) (unsigned_tied k k ∙ eq-eqb k k refl)

  pub removed_elsewhere : (q : ℕ) → q ≢ k → get (remove m k) q ≡ get m q
  removed_elsewhere q apart = get-remove nat_cmp_total m k q ∙ ap (λ b. cond b None (get m q)) (unsigned_tied q k ∙ ne_eqb q k apart)

  pub written_where_some : (w : T) → IsSome (get m k) → written m k w ≡ insert m k w
  written_where_some w there = ap (λ b. cond b (insert m k w) m) there

  pub written_where_none : (w : T) → get m k ≡ None → written m k w ≡ m
  written_where_none w none = ap (λ o. cond (is_some o) (insert m k w) m) none

  pub written_here : (w : T) → IsSome (get m k) → get (written m k w) k ≡ Some w
  written_here w there = ap (λ n. get n k) (written_where_some w there) ∙ put_here w

  pub written_elsewhere : (w : T) (q : ℕ) → q ≢ k → get (written m k w) q ≡ get m q
  written_elsewhere w q apart =
      elim (is_some (get m k)) as (λ b. get (cond b (insert m k w) m) q ≡ get m q) [ true ↦ put_elsewhere w q apart | false ↦ refl ]

  pub len_with_new : (v : T) → get m k ≡ None → len (insert m k v) ≡ len m + 1
  len_with_new v none = len-insert nat_cmp_total m k v ∙ ap (λ o. cond (is_some o) (len m) (len m + 1)) none

  pub len_with_old : (v : T) → IsSome (get m k) → len (insert m k v) ≡ len m
  len_with_old v there = len-insert nat_cmp_total m k v ∙ ap (λ b. cond b (len m) (len m + 1)) there

  len_by : (w : T) (b : Bool) → is_some (get m k) ≡ b → len (cond b (insert m k w) m) ≡ len m
  len_by w true there = len_with_old w there
  len_by w false none = refl

  pub len_written : (w : T) → len (written m k w) ≡ len m
  len_written w = len_by w (is_some (get m k)) refl

  counted : (n : ℕ) → len m ≡ n → IsSome (get m k) → 0 < n
  counted zero none there =
      let gone : false ≡ true = sym (ap (λ (n : FinMap nat_cmp T). is_some (get n k)) (empty_of_len m none)
      ∙ ap is_some (get-empty nat_cmp k)) ∙ there in
      cc gone
  counted (suc n) more there = omega arith

  pub len_without_one : IsSome (get m k) → len (remove m k) + 1 ≡ len m
  len_without_one there =
      let some : 0 < len m = counted (len m) refl there in
      let less : len (remove m k) ≡ len m - 1 = len-remove nat_cmp_total m k ∙ ap (λ b. cond b (len m - 1) (len m)) there in
      omega arith

  pub len_without_none : get m k ≡ None → len (remove m k) ≡ len m
  len_without_none none = len-remove nat_cmp_total m k ∙ ap (λ o. cond (is_some o) (len m - 1) (len m)) none

-- the above and that the empty map has nothing: for the lists of tactics
pub ruleset kept_laws = (
  get-empty,
  len-empty,
  put_here,
  put_elsewhere,
  removed_here,
  removed_elsewhere,
  written_here,
  written_elsewhere,
  written_where_none,
  len_with_new,
  len_with_old,
  len_written,
  len_without_one,
  len_without_none,
)
