-- Where nothing is owed, a record that comes, closes, loses its END_STREAM or goes leaves it so.
use Rattle.std.proofs.Common.{◌≡◌, ℕ, [], ◌++◌, length, Some, None, is_some, Bool, true, false, refl, ap, sym, ◌∙◌, subst, inl, inr, arith, length-append}
use Rattle.std.specs.FinMap.{get, insert, remove}
use Rattle.std.proofs.lemmas.Bool.{cases_eq}
use Rattle.hb_map.specs.Keyed.{written}
use Rattle.hb_map.proofs.Laws.{put_here, put_elsewhere, removed_here, removed_elsewhere, written_where_some}
use Rattle.hb_owed.specs.Dues.{Debt, clear, dues_of, status_due, credit_due, end_due, reset_due}
use Rattle.hb_owed.specs.Debts.{Debts, dues_by, shut, without_end, IsFirstDue}

owes_nothing_with : (m : Debts) (k : ℕ) (d : Debt) → dues_of d ≡ [] → IsFirstDue m None → IsFirstDue (insert m k d) None
owes_nothing_with m k d none clear q =
    elim (cases_eq q k) [
      | inl same ↦ ap (λ n. dues_by (get (insert m k d) n)) same ∙ ap dues_by (put_here m k d) ∙ none
      | inr apart ↦ ap dues_by (put_elsewhere m k d q apart) ∙ clear q
    ]

owes_nothing_after : (m : Debts) (k : ℕ) (d e : Debt) → get m k ≡ Some d → dues_of e ≡ [] → IsFirstDue m None
    → IsFirstDue (written m k e) None
owes_nothing_after m k d e is none so =
    subst (λ n. IsFirstDue n None) (sym (written_where_some m k e (ap is_some is))) (owes_nothing_with m k e none so)

owes_nothing_on : (m : Debts) (k : ℕ) (d : Debt) → get m k ≡ Some d → IsFirstDue m None → dues_of d ≡ []
owes_nothing_on m k d is so = sym (ap dues_by is) ∙ so k

pub clear_put : (m : Debts) (k : ℕ) (all : Bool) → (all ≡ true → IsFirstDue m None) → all ≡ true → IsFirstDue (insert m k clear) None
clear_put m k all so holds = owes_nothing_with m k clear refl (so holds)

pub clear_shut : (m : Debts) (k : ℕ) (d : Debt) (all : Bool) → get m k ≡ Some d → (all ≡ true → IsFirstDue m None) → all ≡ true
    → IsFirstDue (written m k (shut d)) None
clear_shut m k d all is so holds = owes_nothing_after m k d (shut d) is (owes_nothing_on m k d is (so holds)) (so holds)

none_without_end : (d : Debt) (end : Bool) → d.end ≡ end → dues_of d ≡ [] → dues_of (without_end d) ≡ []
none_without_end d false is none = ap (λ (end : Bool). dues_of (record d { end = end })) (sym is) ∙ none
none_without_end d true is none =
    let some : status_due d.status ++ (credit_due d.credit ++ (end_due true ++ reset_due d.reset)) ≡ [] =
    ap (λ (end : Bool). dues_of (record d { end = end })) (sym is) ∙ none in
    absurd (omega (
      arith,
      ap length some,
      length-append (status_due d.status) (credit_due d.credit ++ (end_due true ++ reset_due d.reset)),
      length-append (credit_due d.credit) (end_due true ++ reset_due d.reset),
      length-append (end_due true) (reset_due d.reset),
    ))

pub clear_without_end : (m : Debts) (k : ℕ) (d : Debt) (all : Bool) → get m k ≡ Some d → (all ≡ true → IsFirstDue m None) → all ≡ true
    → IsFirstDue (written m k (without_end d)) None
clear_without_end m k d all is so holds =
    owes_nothing_after m k d (without_end d) is (none_without_end d d.end refl (owes_nothing_on m k d is (so holds))) (so holds)

pub clear_removed : (m : Debts) (k : ℕ) (all : Bool) → (all ≡ true → IsFirstDue m None) → all ≡ true → IsFirstDue (remove m k) None
clear_removed m k all so holds q =
    elim (cases_eq q k) [
      | inl same ↦ ap (λ n. dues_by (get (remove m k) n)) same ∙ ap dues_by (removed_here m k)
      | inr apart ↦ ap dues_by (removed_elsewhere m k q apart) ∙ so holds q
    ]
