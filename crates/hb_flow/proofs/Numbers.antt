-- The streams that have windows have numbers of 32 bits, after each change.
use Rattle.std.proofs.Common.{◌≡◌, ℕ, ◌≤◌, true, false, Bool, cond, Option, Some, None, is_some, refl, ap, sym, ◌∙◌, subst, inl, inr, arith}
use Rattle.std.specs.Ordering.{nat_cmp}
use Rattle.std.specs.FinMap.{FinMap, empty, get, insert, remove, get-empty}
use Rattle.std.proofs.lemmas.Bool.{false≢true, cases_eq}
use Rattle.hb_map.specs.Keyed.{written}
use Rattle.hb_map.proofs.Laws.{put_elsewhere, removed_here, removed_elsewhere}
use Rattle.hb_flow.specs.Windows.{Windows}
use Rattle.hb_flow.specs.Flows.{AreNumbered}

none_of : {T : Type 0} (o : Option T) → is_some o ≡ false → o ≡ None
none_of None h = refl
none_of (Some x) h = absurd (false≢true (sym h))

pub numbered_none : AreNumbered empty
unfolding AreNumbered
numbered_none n there = absurd (false≢true (ap is_some (sym (get-empty nat_cmp n)) ∙ there))

pub numbered_put : (m : FinMap nat_cmp Windows) (k : ℕ) (w : Windows) → AreNumbered m → k ≤ 4294967295 → AreNumbered (insert m k w)
unfolding AreNumbered
numbered_put m k w numbered small n there =
    elim (cases_eq n k) [
      | inl same ↦ subst (λ q. q ≤ 4294967295) (sym same) small
      | inr apart ↦ numbered n (ap is_some (sym (put_elsewhere m k w n apart)) ∙ there)
    ]

pub numbered_removed : (m : FinMap nat_cmp Windows) (k : ℕ) → AreNumbered m → AreNumbered (remove m k)
unfolding AreNumbered
numbered_removed m k numbered n there =
    elim (cases_eq n k) [
      | inl same ↦ absurd (false≢true (ap is_some (sym (ap (get (remove m k)) same ∙ removed_here m k)) ∙ there))
      | inr apart ↦ numbered n (ap is_some (sym (removed_elsewhere m k n apart)) ∙ there)
    ]

bound_of : (m : FinMap nat_cmp Windows) (k : ℕ) → AreNumbered m → is_some (get m k) ≡ true → k ≤ 4294967295
unfolding AreNumbered
bound_of m k numbered there = numbered k there

written_by : (m : FinMap nat_cmp Windows) (k : ℕ) (w : Windows) (b : Bool) → is_some (get m k) ≡ b → AreNumbered m
    → AreNumbered (cond b (insert m k w) m)
written_by m k w false none numbered = numbered
written_by m k w true some numbered = numbered_put m k w numbered (bound_of m k numbered some)

pub numbered_written : (m : FinMap nat_cmp Windows) (k : ℕ) (w : Windows) → AreNumbered m → AreNumbered (written m k w)
numbered_written m k w numbered = written_by m k w (is_some (get m k)) refl numbered

-- no stream has a greater number
pub none_behind : (m : FinMap nat_cmp Windows) → AreNumbered m → (n : ℕ) → 4294967296 ≤ n → get m n ≡ None
unfolding AreNumbered
none_behind m numbered n above = by (is_some (get m n)) refl
  where
    by : (b : Bool) → is_some (get m n) ≡ b → get m n ≡ None
    by true there = let small : n ≤ 4294967295 = numbered n there in absurd (omega arith)
    by false none = none_of (get m n) none
