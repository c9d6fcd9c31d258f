-- Records of streams that aren't closed stay with what is owed.
use Rattle.std.proofs.Common.{◌≡◌, ℕ, Bool, true, false, not, cond, ◌&&◌, Option, Some, None, is_some, inl, inr, refl, ap, sym, ◌∙◌}
use Rattle.std.specs.FinMap.{get, remove}
use Rattle.std.specs.Prelude.{nat_le, ◌-◌}
use Rattle.std.proofs.lemmas.Bool.{false≢true, cases_eq}
use Rattle.hb_map.specs.Keyed.{written}
use Rattle.hb_map.proofs.Laws.{removed_elsewhere, written_here, written_elsewhere}
use Rattle.hb_owed.specs.declared.due.Due.{Due}
use Rattle.hb_owed.specs.declared.due.Due.TheVariants as due
use Rattle.hb_owed.specs.Dues.{Debt, is_nil, dues_of}
use Rattle.hb_owed.specs.Debts.{Debts, changed, changed_by, settled, taken_back, is_done_by}
use Rattle.hb_owed.specs.Debts.{with_status, with_credit, with_end, with_reset, without_end, credit_on}
use Rattle.hb_frames.specs.Numbers.{largest}
use Rattle.hb_owed.specs.Moves.{is_open}
use Rattle.hb_owed.specs.Paid.{Payment, paid}
use Rattle.hb_owed.proofs.Records.{keeps_records}
use Rattle.hb_conn.specs.Owing.{also}
use Rattle.hb_history.proofs.Parts.{KeepsOpen}

pub both_keep : (a b c : Debts) → KeepsOpen a b → KeepsOpen b c → KeepsOpen a c
both_keep a b c first then n live = then n (first n live)

changed_at : (m : Debts) (s n : ℕ) (change : Debt → Debt) (o : Option Debt) → get m s ≡ o
    → ((d : Debt) → (change d).closed ≡ d.closed) → is_open (get m n) ≡ true → is_open (get (changed_by m s change o) n) ≡ true
changed_at m s n change None is keeps live = live
changed_at m s n change (Some d) is keeps live =
    elim (cases_eq n s) [
      | inl same ↦ ap (λ q. is_open (get (written m s (change d)) q)) same
          ∙ ap is_open (written_here m s (change d) (ap is_some is)) ∙ ap not (keeps d)
          ∙ sym (ap is_open is) ∙ sym (ap (λ q. is_open (get m q)) same) ∙ live
      | inr apart ↦ ap is_open (written_elsewhere m s (change d) n apart) ∙ live
    ]

pub changed_keeps : (m : Debts) (s : ℕ) (change : Debt → Debt) → ((d : Debt) → (change d).closed ≡ d.closed)
    → KeepsOpen m (changed m s change)
changed_keeps m s change keeps n live = changed_at m s n change (get m s) refl keeps live

done_closed : (o : Option Debt) → is_done_by o ≡ true → is_open o ≡ true → false ≡ true
done_closed None done live = done
done_closed (Some d) done live = by d.closed done live
  where
    by : (b : Bool) → (b && is_nil (dues_of d)) ≡ true → not b ≡ true → false ≡ true
    by true done live = live
    by false done live = done

settled_by : (m : Debts) (s n : ℕ) (b : Bool) → is_done_by (get m s) ≡ b → is_open (get m n) ≡ true
    → is_open (get (cond b (remove m s) m) n) ≡ true
settled_by m s n false done live = live
settled_by m s n true done live =
    elim (cases_eq n s) [
      | inl same ↦ absurd (false≢true (done_closed (get m s) done (sym (ap (λ q. is_open (get m q)) same) ∙ live)))
      | inr apart ↦ ap is_open (removed_elsewhere m s n apart) ∙ live
    ]

pub settled_keeps : (m : Debts) (s : ℕ) → KeepsOpen m (settled m s)
settled_keeps m s n live = settled_by m s n (is_done_by (get m s)) refl live

pub end_taken_back : (m : Debts) (s : ℕ) → KeepsOpen m (taken_back m s)
end_taken_back m s = both_keep m (changed m s without_end) (taken_back m s) (changed_keeps m s without_end (λ d. refl))
    (settled_keeps (changed m s without_end) s)

credit_by : (m : Debts) (s n : ℕ) (b : Bool) → KeepsOpen m (cond b (changed m s (with_credit n)) m)
credit_by m s n true = changed_keeps m s (with_credit n) (λ d. refl)
credit_by m s n false = λ q live. live

pub also_keeps : (m : Debts) (s : ℕ) (d : Due) → KeepsOpen m (also m s d)
also_keeps m s (due.Status status) = changed_keeps m s (with_status status) (λ d. refl)
also_keeps m s (due.Credit n) = credit_by m s n (nat_le n (largest - credit_on m s))
also_keeps m s due.End = changed_keeps m s with_end (λ d. refl)
also_keeps m s (due.Reset code) = changed_keeps m s (with_reset code) (λ d. refl)

pub payment_keeps : (p : Payment) → KeepsOpen p.owed (paid p).owed
payment_keeps p n live = (keeps_records p n).1 live
