-- Which streams have records.
use Rattle.std.proofs.Common.{◌≡◌, ℕ, ◌+◌, Bool, true, false, cond, List, [], ◌∷◌, ◌++◌, fold, Option, Some, None, is_some, inl, inr, refl, ap, sym, ◌∙◌, subst, arith}
use Rattle.std.specs.Prelude.{nat_lt, ◌==◌, ◌&&◌, not, if◌then◌else◌}
use Rattle.std.specs.Ordering.{nat_cmp}
use Rattle.std.specs.FinMap.{empty, get, insert, remove, get-empty}
use Rattle.std.proofs.lemmas.Bool.{false≢true, cases_eq}
use Rattle.std.proofs.lemmas.Bool.Decides.{nat_tests}
use Rattle.std.proofs.Math.Bool.{and-false}
use Rattle.hb_map.proofs.Laws.{put_here, put_elsewhere, removed_here, written_here}
use Rattle.hb_outgoing.specs.Waiting.{room_of}
use Rattle.hb_owed.specs.declared.due.Due.{Due}
use Rattle.hb_owed.specs.declared.due.Due.TheVariants as due
use Rattle.hb_owed.specs.declared.status.Status.{Status}
use Rattle.hb_owed.specs.Dues.{Debt, clear, dues_of, end_due, reset_due, status_due, credit_due, is_nil, is_done, without}
use Rattle.hb_owed.specs.Debts.{Debts, changed, changed_by, settled, struck, is_done_by, dues, with_status, with_credit, with_end, with_reset, without_end, shut}
use Rattle.hb_owed.specs.Frames.{size_of}
use Rattle.hb_owed.specs.Paid.{Payment, with_put, put_while_fits}
use Rattle.hb_owed.specs.Moves.{Move, opens, owes_status, owes_credit, owes_end, owes_reset, takes_back, closes, pays, clears, after, ClosedGo, is_open, KeepsRecords}
use Rattle.hb_owed.proofs.Walks.{settled_elsewhere, changed_elsewhere}

abbrev NoneIsDone : Debts → Type 0
NoneIsDone m = (s : ℕ) → is_done_by (get m s) ≡ false

-- a record that owes a frame isn't done

not_done : (d : Debt) → is_nil (dues_of d) ≡ false → is_done d ≡ false
not_done d owes = ap (λ b. d.closed && b) owes ∙ and-false d.closed

owes_behind : (xs ys : List Due) → is_nil ys ≡ false → is_nil (xs ++ ys) ≡ false
owes_behind [] ys h = h
owes_behind (x ∷ xs) ys h = refl

end_owes : (d : Debt) → is_done (with_end d) ≡ false
end_owes d =
    not_done (with_end d)
    (owes_behind (status_due d.status) (credit_due d.credit ++ (due.End ∷ reset_due d.reset))
    (owes_behind (credit_due d.credit) (due.End ∷ reset_due d.reset) refl))

reset_owes : (code : ℕ) (d : Debt) → is_done (with_reset code d) ≡ false
reset_owes code d = not_done (with_reset code d) (owes_behind (status_due d.status) (due.Reset code ∷ []) refl)

more_owed : (k n : ℕ) (behind : List Due) → is_nil (credit_due k ++ behind) ≡ false → is_nil (credit_due (k + n) ++ behind) ≡ false
more_owed k n behind h = by (k + n == 0) refl
  where
    by : (b : Bool) → (k + n == 0) ≡ b → is_nil (credit_due (k + n) ++ behind) ≡ false
    by false some = ap (λ b. is_nil ((if b then [] else due.Credit (k + n) ∷ []) ++ behind)) some
    by true none =
        let before : (k == 0) ≡ true = grind (arith, nat_tests, none) in
        ap (λ b. is_nil ((if b then [] else due.Credit (k + n) ∷ []) ++ behind)) none
        ∙ sym (ap (λ b. is_nil ((if b then [] else due.Credit k ∷ []) ++ behind)) before) ∙ h

credit_by_status : (s : Option Status) (k n : ℕ) (behind : List Due) → is_nil (status_due s ++ (credit_due k ++ behind)) ≡ false
    → is_nil (status_due s ++ (credit_due (k + n) ++ behind)) ≡ false
credit_by_status None k n behind h = more_owed k n behind h
credit_by_status (Some status) k n behind h = refl

owes_of : (closed : Bool) (xs ys : List Due) → (is_nil xs ≡ false → is_nil ys ≡ false) → (closed && is_nil xs) ≡ false
    → (closed && is_nil ys) ≡ false
owes_of true xs ys more h = more h
owes_of false xs ys more h = refl

credit_owes : (n : ℕ) (d : Debt) → is_done d ≡ false → is_done (with_credit n d) ≡ false
credit_owes n d h =
    owes_of d.closed (dues_of d) (dues_of (with_credit n d))
    (credit_by_status d.status d.credit n (end_due d.end ++ reset_due d.reset)) h

-- one record changes

changed_by_done : (m : Debts) (s : ℕ) (change : Debt → Debt) (o : Option Debt) → get m s ≡ o
    → ((d : Debt) → is_done d ≡ false → is_done (change d) ≡ false) → is_done_by o ≡ false
    → is_done_by (get (changed_by m s change o) s) ≡ false
changed_by_done m s change None is keeps h = ap is_done_by is
changed_by_done m s change (Some d) is keeps h =
    ap is_done_by (written_here m s (change d) (ap is_some is)) ∙ keeps d h

changed_keeps : (m : Debts) (s : ℕ) (change : Debt → Debt) → ((d : Debt) → is_done d ≡ false → is_done (change d) ≡ false)
    → NoneIsDone m → NoneIsDone (changed m s change)
changed_keeps m s change keeps none q =
    elim (cases_eq q s) [
      | inl same ↦ ap (λ q. is_done_by (get (changed m s change) q)) same
          ∙ changed_by_done m s change (get m s) refl keeps (none s)
      | inr apart ↦ ap is_done_by (changed_elsewhere m s q change (get m s) apart) ∙ none q
    ]

settled_not_done : (m : Debts) (s : ℕ) (b : Bool) → is_done_by (get m s) ≡ b → is_done_by (get (cond b (remove m s) m) s) ≡ false
settled_not_done m s true is = ap is_done_by (removed_here m s)
settled_not_done m s false is = is

-- whatever becomes of a record, it goes where it is done
settled_keeps : (m : Debts) (s : ℕ) (change : Debt → Debt) → NoneIsDone m → NoneIsDone (settled (changed m s change) s)
settled_keeps m s change none q =
    elim (cases_eq q s) [
      | inl same ↦ ap (λ q. is_done_by (get (settled (changed m s change) s) q)) same
          ∙ settled_not_done (changed m s change) s (is_done_by (get (changed m s change) s)) refl
      | inr apart ↦ ap is_done_by (settled_elsewhere m s q change apart) ∙ none q
    ]

opened_keeps : (m : Debts) (s : ℕ) → NoneIsDone m → NoneIsDone (insert m s clear)
opened_keeps m s none q =
    elim (cases_eq q s) [
      | inl same ↦ ap (λ q. is_done_by (get (insert m s clear) q)) same ∙ ap is_done_by (put_here m s clear)
      | inr apart ↦ ap is_done_by (put_elsewhere m s clear q apart) ∙ none q
    ]

put_keeps : (xs : List (ℕ × Due)) (p : Payment) → NoneIsDone p.owed → NoneIsDone (put_while_fits xs p).owed
put_keeps [] p none = none
put_keeps (x ∷ xs) p none =
    by (nat_lt (room_of p.out) (size_of x.1)) (put_keeps xs (with_put x.0 x.1 p) (settled_keeps p.owed x.0 (without x.1) none))
  where
    by : (b : Bool) → NoneIsDone (put_while_fits xs (with_put x.0 x.1 p)).owed
        → NoneIsDone (if b then p else put_while_fits xs (with_put x.0 x.1 p)).owed
    by true later = none
    by false later = later

after_keeps : (m : Debts) (move : Move) → NoneIsDone m → NoneIsDone (after m move)
after_keeps m (opens s) none = opened_keeps m s none
after_keeps m (owes_status s status) none = changed_keeps m s (with_status status) (λ d h. not_done (with_status status d) refl) none
after_keeps m (owes_credit s n) none = changed_keeps m s (with_credit n) (credit_owes n) none
after_keeps m (owes_end s) none = changed_keeps m s with_end (λ d h. end_owes d) none
after_keeps m (owes_reset s code) none = changed_keeps m s (with_reset code) (λ d h. reset_owes code d) none
after_keeps m (takes_back s) none = settled_keeps m s without_end none
after_keeps m (closes s) none = settled_keeps m s shut none
after_keeps m (pays out writing) none = put_keeps (dues m) (record { owed = m; out = out; writing = writing }) none
after_keeps m clears none = λ s. ap is_done_by (get-empty nat_cmp s)

all_keep : (moves : List Move) (m : Debts) → NoneIsDone m → NoneIsDone (fold after m moves)
all_keep [] m none = none
all_keep (move ∷ moves) m none = all_keep moves (after m move) (after_keeps m move none)

pub closed_go : ClosedGo
closed_go moves = all_keep moves empty (λ s. ap is_done_by (get-empty nat_cmp s))

-- a payment

without_closes : (x : Due) (d : Debt) → (without x d).closed ≡ d.closed
without_closes (due.Status status) d = refl
without_closes (due.Credit n) d = refl
without_closes due.End d = refl
without_closes (due.Reset code) d = refl

abbrev AreKept : Option Debt → Option Debt → Type 0
AreKept old new = (old ≡ None → new ≡ None) × (is_open old ≡ true → is_open new ≡ true)

settled_by_open : (m : Debts) (s : ℕ) (d : Debt) → get m s ≡ Some d → d.closed ≡ false → (b : Bool) → is_done_by (get m s) ≡ b
    → is_open (get (cond b (remove m s) m) s) ≡ true
settled_by_open m s d is live true done =
    absurd (false≢true (sym (ap is_done_by is ∙ ap (λ c. c && is_nil (dues_of d)) live) ∙ done))
settled_by_open m s d is live false done = ap is_open is ∙ ap not live

open_of : (d : Debt) → not d.closed ≡ true → d.closed ≡ false
open_of d h = by d.closed h
  where
    by : (b : Bool) → not b ≡ true → b ≡ false
    by true e = absurd (false≢true e)
    by false e = refl

struck_by : (m : Debts) (s : ℕ) (x : Due) (o : Option Debt) → get m s ≡ o → AreKept o (get (settled (changed_by m s (without x) o) s) s)
struck_by m s x None none = (
  λ e. ap (λ o. get (cond (is_done_by o) (remove m s) m) s) none ∙ none,
  λ e. absurd (false≢true e),
)
struck_by m s x (Some d) some = (
  λ e. absurd (false≢true (sym (ap is_some e))),
  λ live.
      let n = changed_by m s (without x) (Some d) in
      settled_by_open n s (without x d) (written_here m s (without x d) (ap is_some some)) (without_closes x d ∙ open_of d live)
      (is_done_by (get n s)) refl,
)

struck_keeps : (m : Debts) (s : ℕ) (x : Due) (q : ℕ) → AreKept (get m q) (get (struck m s x) q)
struck_keeps m s x q =
    elim (cases_eq q s) [
      | inl same ↦ subst (λ q. AreKept (get m q) (get (struck m s x) q)) (sym same) (struck_by m s x (get m s) refl)
      | inr apart ↦ subst (AreKept (get m q)) (sym (settled_elsewhere m s q (without x) apart)) (λ e. e, λ e. e)
    ]

both_keep : (a b c : Option Debt) → AreKept a b → AreKept b c → AreKept a c
both_keep a b c k l = (λ e. l.0 (k.0 e), λ e. l.1 (k.1 e))

put_keeps_records : (xs : List (ℕ × Due)) (p : Payment) (q : ℕ) → AreKept (get p.owed q) (get (put_while_fits xs p).owed q)
put_keeps_records [] p q = (λ e. e, λ e. e)
put_keeps_records (x ∷ xs) p q =
    by (nat_lt (room_of p.out) (size_of x.1))
    (both_keep _ _ _ (struck_keeps p.owed x.0 x.1 q) (put_keeps_records xs (with_put x.0 x.1 p) q))
  where
    by : (b : Bool) → AreKept (get p.owed q) (get (put_while_fits xs (with_put x.0 x.1 p)).owed q)
        → AreKept (get p.owed q) (get (if b then p else put_while_fits xs (with_put x.0 x.1 p)).owed q)
    by true later = (λ e. e, λ e. e)
    by false later = later

pub keeps_records : KeepsRecords
keeps_records p s = put_keeps_records (dues p.owed) p s
