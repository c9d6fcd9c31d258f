-- The streams that have records have numbers of 31 bits, after each change.
use Rattle.std.proofs.Common.{◌≡◌, ℕ, ◌≤◌, ◌<◌, true, false, Bool, cond, Option, Some, None, is_some, IfSome, refl, ap, sym, ◌∙◌, subst, inl, inr, arith}
use Rattle.std.specs.FinMap.{empty, get, insert, remove, get-empty}
use Rattle.std.specs.Ordering.{nat_cmp}
use Rattle.std.proofs.lemmas.Bool.{false≢true, cases_eq}
use Rattle.hb_map.specs.Keyed.{written, IsFirstFrom}
use Rattle.hb_map.proofs.Laws.{put_elsewhere, removed_here, removed_elsewhere}
use Rattle.hb_owed.specs.Dues.{Debt}
use Rattle.hb_owed.specs.Debts.{Debts, AreNumbered}
use Rattle.hb_frames.specs.Numbers.{largest}

pub none_of : {T : Type 0} (o : Option T) → is_some o ≡ false → o ≡ None
none_of None h = refl
none_of (Some x) h = absurd (false≢true (sym h))

pub numbered_none : AreNumbered empty
unfolding AreNumbered
numbered_none n there = absurd (false≢true (ap is_some (sym (get-empty nat_cmp n)) ∙ there))

pub numbered_put : (m : Debts) (k : ℕ) (d : Debt) → AreNumbered m → k ≤ largest → AreNumbered (insert m k d)
unfolding AreNumbered
numbered_put m k d numbered small n there =
    elim (cases_eq n k) [
      | inl same ↦ subst (λ q. q ≤ largest) (sym same) small
      | inr apart ↦ numbered n (ap is_some (sym (put_elsewhere m k d n apart)) ∙ there)
    ]

pub numbered_removed : (m : Debts) (k : ℕ) → AreNumbered m → AreNumbered (remove m k)
unfolding AreNumbered
numbered_removed m k numbered n there =
    elim (cases_eq n k) [
      | inl same ↦ absurd (false≢true (ap is_some (sym (ap (get (remove m k)) same ∙ removed_here m k)) ∙ there))
      | inr apart ↦ numbered n (ap is_some (sym (removed_elsewhere m k n apart)) ∙ there)
    ]

pub bound_of : (m : Debts) (k : ℕ) → AreNumbered m → is_some (get m k) ≡ true → k ≤ largest
unfolding AreNumbered
bound_of m k numbered there = numbered k there

written_by : (m : Debts) (k : ℕ) (d : Debt) (b : Bool) → is_some (get m k) ≡ b → AreNumbered m → AreNumbered (cond b (insert m k d) m)
written_by m k d false none numbered = numbered
written_by m k d true some numbered = numbered_put m k d numbered (bound_of m k numbered some)

pub numbered_written : (m : Debts) (k : ℕ) (d : Debt) → AreNumbered m → AreNumbered (written m k d)
numbered_written m k d numbered = written_by m k d (is_some (get m k)) refl numbered

-- no stream has a greater number
pub none_behind : (m : Debts) → AreNumbered m → (n : ℕ) → largest < n → get m n ≡ None
unfolding AreNumbered
none_behind m numbered n above = by (is_some (get m n)) refl
  where
    by : (b : Bool) → is_some (get m n) ≡ b → get m n ≡ None
    by true there = let small : n ≤ largest = numbered n there in absurd (omega arith)
    by false none = none_of (get m n) none

-- nor the first of them
pub first_in_range : (m : Debts) (from : ℕ) (next : Option ℕ) → AreNumbered m → IsFirstFrom m from next → IfSome next (λ n. n ≤ largest)
first_in_range m from None numbered least = tt
first_in_range m from (Some next) numbered least = bound_of m next numbered least.1
