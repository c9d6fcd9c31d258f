-- Nothing is owed but an increment on one stream.
use Rattle.std.proofs.Common.{◌≡◌, ◌≢◌, ℕ, ◌+◌, ◌-◌, ◌<◌, ◌==◌, ◌&&◌, Bool, true, false, cond, List, [], ◌∷◌, ◌++◌, Option, Some, None, is_some, refl, ap, sym, ◌∙◌, subst, arith}
use Rattle.std.specs.Prelude.{nat_le}
use Rattle.std.specs.FinMap.{get, remove}
use Rattle.std.proofs.lemmas.Bool.Decides.{nat_tests}
use Rattle.std.proofs.lemmas.List.{append-nil}
use Rattle.hb_map.proofs.Laws.{written_here}
use Rattle.hb_owed.specs.Dues.{Debt, is_nil, dues_of, without}
use Rattle.hb_owed.specs.Debts.{Debts, changed, changed_by, settled, struck, with_credit}
use Rattle.hb_owed.specs.Debts.{credit_on, credit_by, is_done_by, dues, dues_on, dues_by}
use Rattle.hb_frames.specs.Numbers.{largest}
use Rattle.hb_owed.specs.declared.due.Due.{Due}
use Rattle.hb_owed.specs.declared.due.Due.TheVariants as due
use Rattle.hb_owed.proofs.Walks.{on, dues_step, dues_up_to, nothing_from, changed_elsewhere}
use Rattle.hb_conn.specs.Owing.{also}
use Rattle.hb_history.specs.OwnFrames.{first_stream}

-- a record owes at most an increment, and its stream isn't closed
abbrev pub OwesCredit : Option Debt → Type 0
OwesCredit None = ⊥
OwesCredit (Some d) = (d.status ≡ None) × (d.end ≡ false) × (d.reset ≡ None) × (d.closed ≡ false)

-- the stream alone has a record, which owes at most an increment
abbrev pub OnlyCredit : Debts → Type 0
OnlyCredit m = ((q : ℕ) → q ≢ first_stream → get m q ≡ None) × OwesCredit (get m first_stream)

-- what a change makes of the record
changed_credit : (m : Debts) (change : Debt → Debt) (o : Option Debt) → get m first_stream ≡ o
    → ((d : Debt) → OwesCredit (Some d) → OwesCredit (Some (change d))) → OwesCredit o
    → OwesCredit (get (changed_by m first_stream change o) first_stream)
changed_credit m change None is keeps owes = absurd owes
changed_credit m change (Some d) is keeps owes =
    subst OwesCredit (sym (written_here m first_stream (change d) (ap is_some is))) (keeps d owes)

changed_only : (m : Debts) (change : Debt → Debt) → ((d : Debt) → OwesCredit (Some d) → OwesCredit (Some (change d)))
    → OnlyCredit m → OnlyCredit (changed m first_stream change)
changed_only m change keeps only = (
  λ q apart. changed_elsewhere m first_stream q change (get m first_stream) apart ∙ only.0 q apart,
  changed_credit m change (get m first_stream) refl keeps only.1,
)

credit_changed : (m : Debts) (change : Debt → Debt) (n : ℕ → ℕ) (o : Option Debt) → get m first_stream ≡ o
    → ((d : Debt) → (change d).credit ≡ n d.credit) → OwesCredit o
    → credit_by (get (changed_by m first_stream change o) first_stream) ≡ n (credit_by o)
credit_changed m change n None is changes owes = absurd owes
credit_changed m change n (Some d) is changes owes =
    ap credit_by (written_here m first_stream (change d) (ap is_some is)) ∙ changes d

-- its record stays
done_by : (o : Option Debt) → OwesCredit o → is_done_by o ≡ false
done_by None owes = absurd owes
done_by (Some d) owes = ap (λ b. b && is_nil (dues_of d)) owes.3

settled_same : (m : Debts) → OwesCredit (get m first_stream) → settled m first_stream ≡ m
settled_same m owes = ap (λ b. cond b (remove m first_stream) m) (done_by (get m first_stream) owes)

-- an increment is put, and owed no more
pub struck_only : (m : Debts) (k : ℕ) → OnlyCredit m → OnlyCredit (struck m first_stream (due.Credit k))
struck_only m k only =
    let n = changed m first_stream (without (due.Credit k)) in
    let left = changed_only m (without (due.Credit k)) (λ d owes. owes) only in
    subst OnlyCredit (sym (settled_same n left.1)) left

pub struck_none : (m : Debts) (k : ℕ) → OnlyCredit m → credit_on (struck m first_stream (due.Credit k)) first_stream ≡ 0
struck_none m k only =
    let n = changed m first_stream (without (due.Credit k)) in
    let left = changed_only m (without (due.Credit k)) (λ d owes. owes) only in
    ap (λ (x : Debts). credit_on x first_stream) (settled_same n left.1)
    ∙ credit_changed m (without (due.Credit k)) (λ i. 0) (get m first_stream) refl (λ d. refl) only.1

-- an increment is owed besides
also_by : (m : Debts) (k : ℕ) (b : Bool) → OnlyCredit m → OnlyCredit (cond b (changed m first_stream (with_credit k)) m)
also_by m k true only = changed_only m (with_credit k) (λ d owes. owes) only
also_by m k false only = only

pub also_only : (m : Debts) (k : ℕ) → OnlyCredit m → OnlyCredit (also m first_stream (due.Credit k))
also_only m k only = also_by m k (nat_le k (largest - credit_on m first_stream)) only

pub also_credit : (m : Debts) (k : ℕ) → OnlyCredit m → credit_on m first_stream + k < 2147483648
    → credit_on (also m first_stream (due.Credit k)) first_stream ≡ credit_on m first_stream + k
also_credit m k only fits =
    let room : nat_le k (largest - credit_on m first_stream) ≡ true = grind (arith, nat_tests, fits) in
    ap (λ b. credit_on (cond b (changed m first_stream (with_credit k)) m) first_stream) room
    ∙ credit_changed m (with_credit k) (λ i. i + k) (get m first_stream) refl (λ d. refl) only.1

-- what is owed, in order
abbrev pub credit_list : ℕ → List (ℕ × Due)
credit_list n = cond (n == 0) [] ((first_stream, due.Credit n) ∷ [])

list_by : (n : ℕ) (b : Bool) → on first_stream (cond b [] (due.Credit n ∷ []) ++ []) ≡ cond b [] ((first_stream, due.Credit n) ∷ [])
list_by n true = refl
list_by n false = refl

credits_on : (o : Option Debt) → OwesCredit o → on first_stream (dues_by o) ≡ credit_list (credit_by o)
credits_on None owes = absurd owes
credits_on (Some d) owes = rw (owes.0, owes.1, owes.2) (list_by d.credit (d.credit == 0))

pub alone_dues : (m : Debts) → ((q : ℕ) → q ≢ first_stream → get m q ≡ None) → dues m ≡ on first_stream (dues_on m first_stream)
alone_dues m none =
    dues_up_to m first_stream (λ q below. ap dues_by (none q (omega arith))) ∙ dues_step m first_stream
    ∙ ap (λ xs. on first_stream (dues_on m first_stream) ++ xs) (nothing_from m 2 (λ q above. none q (omega arith)))
    ∙ append-nil (on first_stream (dues_on m first_stream))

pub only_dues : (m : Debts) → OnlyCredit m → dues m ≡ credit_list (credit_on m first_stream)
only_dues m only = alone_dues m only.0 ∙ credits_on (get m first_stream) only.1

-- nothing is owed on the stream exactly where no increment is
nil_by : (n : ℕ) (b : Bool) → (n == 0) ≡ b → is_nil (cond b [] (due.Credit n ∷ []) ++ []) ≡ b
nil_by n true test = refl
nil_by n false test = refl

nil_of : (o : Option Debt) → OwesCredit o → is_nil (dues_by o) ≡ (credit_by o == 0)
nil_of None owes = absurd owes
nil_of (Some d) owes = rw (owes.0, owes.1, owes.2) (nil_by d.credit (d.credit == 0) refl)

pub none_owed : (m : Debts) → OnlyCredit m → is_nil (dues_on m first_stream) ≡ true → credit_on m first_stream ≡ 0
none_owed m only nil =
    let test : (credit_on m first_stream == 0) ≡ true = sym (nil_of (get m first_stream) only.1) ∙ nil in grind (arith, nat_tests, test)

pub owes_none : (m : Debts) → OnlyCredit m → credit_on m first_stream ≡ 0 → is_nil (dues_on m first_stream) ≡ true
owes_none m only none = nil_of (get m first_stream) only.1 ∙ ap (λ n. n == 0) none
