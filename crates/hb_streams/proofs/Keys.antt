-- What a map under numbers has after each change, and how much.
use Rattle.std.proofs.Common.{◌≡◌, ℕ, ◌+◌, ◌-◌, ◌≤◌, Bool, true, false, cond, ◌⊎◌, inl, inr, Some, unwrap_or, is_some, refl, sym, ap, subst, ◌∙◌, arith}
use Rattle.std.specs.Ordering.{nat_cmp}
use Rattle.std.specs.Cmp.{nat_cmp_total}
use Rattle.std.specs.FinMap.{FinMap, get, insert, remove, len, len-insert, len-remove}
use Rattle.std.proofs.lemmas.Bool.{false≢true, cases_eq}
use Rattle.hb_map.specs.Keyed.{written}
use Rattle.hb_map.proofs.Laws.{put_here, put_elsewhere, removed_here, removed_elsewhere, len_written}

module _ {T : Type 0} (m : FinMap nat_cmp T) (k : ℕ) where
  -- what is held is what was put, or was held before
  pub held-insert : (v w : T) (q : ℕ) → get (insert m k v) q ≡ Some w → ((q ≡ k) × (w ≡ v)) ⊎ (get m q ≡ Some w)
  held-insert v w q there =
      elim (cases_eq q k) [
        | inl same ↦ inl (same, sym (ap (λ o. unwrap_or o v) (sym (ap (get (insert m k v)) same ∙ put_here m k v) ∙ there)))
        | inr apart ↦ inr (sym (put_elsewhere m k v q apart) ∙ there)
      ]

  pub held-remove : (w : T) (q : ℕ) → get (remove m k) q ≡ Some w → get m q ≡ Some w
  held-remove w q there =
      elim (cases_eq q k) [
        | inl same ↦ absurd (false≢true (ap is_some (sym (ap (get (remove m k)) same ∙ removed_here m k) ∙ there)))
        | inr apart ↦ sym (removed_elsewhere m k q apart) ∙ there
      ]

  written_by : (v w : T) (q : ℕ) (b : Bool) → is_some (get m k) ≡ b → get (cond b (insert m k v) m) q ≡ Some w
      → ((w ≡ v) × (is_some (get m q) ≡ true)) ⊎ (get m q ≡ Some w)
  written_by v w q false none there = inr there
  written_by v w q true some there =
      elim (held-insert v w q there) [
        | inl put ↦ inl (put.1, ap (λ p. is_some (get m p)) put.0 ∙ some)
        | inr before ↦ inr before
      ]

  pub held-written : (v w : T) (q : ℕ) → get (written m k v) q ≡ Some w
      → ((w ≡ v) × (is_some (get m q) ≡ true)) ⊎ (get m q ≡ Some w)
  held-written v w q there = written_by v w q (is_some (get m k)) refl there

  one_more : (b : Bool) (n : ℕ) → cond b n (n + 1) ≤ n + 1
  one_more true n = omega arith
  one_more false n = omega arith

  pub len-insert_most : (v : T) → len (insert m k v) ≤ len m + 1
  len-insert_most v = subst (λ n. n ≤ len m + 1) (sym (len-insert nat_cmp_total m k v)) (one_more (is_some (get m k)) (len m))

  one_less : (b : Bool) (n : ℕ) → cond b (n - 1) n ≤ n
  one_less true n = omega arith
  one_less false n = omega arith

  pub len-remove_most : len (remove m k) ≤ len m
  len-remove_most = subst (λ n. n ≤ len m) (sym (len-remove nat_cmp_total m k)) (one_less (is_some (get m k)) (len m))

  pub len-written_most : (w : T) → len (written m k w) ≤ len m
  len-written_most w = let e : len (written m k w) ≡ len m = len_written m k w in omega arith
