-- What is owed where nothing was, once the record of one stream changed.
use Rattle.std.proofs.Common.{◌≡◌, ◌≢◌, ◌⊎◌, inl, inr, ℕ, suc, Bool, true, false, cond, List, [], ◌∷◌, ◌++◌, Option, Some, None, is_some, refl, ap, sym, ◌∙◌, rules, arith}
use Rattle.std.specs.Prelude.{map, ◌==◌}
use Rattle.std.specs.List.{filter}
use Rattle.std.specs.FinMap.{get, remove}
use Rattle.std.proofs.lemmas.List.{append-nil}
use Rattle.hb_map.proofs.Laws.{removed_here, written_here}
use Rattle.hb_owed.specs.declared.due.Due.{Due}
use Rattle.hb_owed.specs.declared.due.Due.TheVariants as due
use Rattle.hb_owed.specs.Dues.{Debt, dues_of, status_due, credit_due, end_due, reset_due}
use Rattle.hb_owed.specs.Debts.{Debts, changed, changed_by, closed, shut, settled, taken_back, without_end, with_reset, is_done_by, dues, dues_on, dues_by}
use Rattle.hb_owed.proofs.Walks.{on, dues_from, dues_step, dues_up_to, dues_same, settled_elsewhere, changed_elsewhere}
use Rattle.hb_owed.proofs.Orders.{each_stream}

-- nothing is owed on any stream where nothing is owed
pub none_on : (m : Debts) (q : ℕ) → dues m ≡ [] → dues_on m q ≡ []
none_on m q none =
    sym (each_stream m q) ∙ ap (λ (xs : List (ℕ × Due)). map (λ x. x.1) (filter (λ x. x.0 == q) xs)) none

none_behind : (m : Debts) (s : ℕ) → dues m ≡ [] → dues_from (suc s) m ≡ []
none_behind m s none =
    let all : on s (dues_on m s) ++ dues_from (suc s) m ≡ [] =
    sym (dues_step m s) ∙ sym (dues_up_to m s (λ q l. none_on m q none)) ∙ none in
    ap (λ xs. on s xs ++ dues_from (suc s) m) (sym (none_on m s none)) ∙ all

-- where the record of one stream alone differs, only this stream owes anything
pub alone : (m n : Debts) (s : ℕ) → dues m ≡ [] → ((q : ℕ) → q ≢ s → get n q ≡ get m q) → dues n ≡ on s (dues_on n s)
alone m n s none same =
    dues_up_to n s (λ q l. ap dues_by (same q (omega arith)) ∙ none_on m q none) ∙ dues_step n s
    ∙ ap (λ xs. on s (dues_on n s) ++ xs) (dues_same (suc s) n m (λ q g. same q (omega arith)) ∙ none_behind m s none)
    ∙ append-nil (on s (dues_on n s))

-- what a record owes once it changed
abbrev pub owes : (Debt → Debt) → Option Debt → List Due
owes change None = []
owes change (Some d) = dues_of (change d)

changed_here : (m : Debts) (s : ℕ) (change : Debt → Debt) (o : Option Debt) → get m s ≡ o
    → dues_on (changed_by m s change o) s ≡ owes change o
changed_here m s change None is = ap dues_by is
changed_here m s change (Some d) is = ap dues_by (written_here m s (change d) (ap is_some is))

settled_by : (b : Bool) (n : Debts) (s : ℕ) → (dues_on (cond b (remove n s) n) s ≡ []) ⊎ (dues_on (cond b (remove n s) n) s ≡ dues_on n s)
settled_by true n s = inl (ap dues_by (removed_here n s))
settled_by false n s = inr refl

none_or : {xs ys : List Due} → (xs ≡ []) ⊎ (xs ≡ ys) → ys ≡ [] → xs ≡ []
none_or (inl e) none = e
none_or (inr e) none = e ∙ none

-- a change that owes nothing more than before
settled_owes : (m : Debts) (s : ℕ) (change : Debt → Debt) → dues m ≡ [] → owes change (get m s) ≡ []
    → dues (settled (changed m s change) s) ≡ []
settled_owes m s change none here =
    let n = changed m s change in
    let end = changed_here m s change (get m s) refl ∙ here in
    alone m (settled n s) s none (λ q apart. settled_elsewhere m s q change apart)
    ∙ ap (on s) (none_or (settled_by (is_done_by (get n s)) n s) end)

shut_owes : (o : Option Debt) → dues_by o ≡ [] → owes shut o ≡ []
shut_owes None none = refl
shut_owes (Some d) none = none

pub closed_owes : (m : Debts) (s : ℕ) → dues m ≡ [] → dues (closed m s) ≡ []
closed_owes m s none = settled_owes m s shut none (shut_owes (get m s) (none_on m s none))

-- a record that owes nothing owes none of its four frames

empty_parts : {A : Type 0} → (xs ys : List A) → xs ++ ys ≡ [] → (xs ≡ []) × (ys ≡ [])
empty_parts [] ys none = (refl, none)
empty_parts (x ∷ xs) ys none = absurd (search rules)

record Clear (d : Debt) : Type 0 where
  pub status : status_due d.status ≡ []
  pub credit : credit_due d.credit ≡ []
  pub reset : reset_due d.reset ≡ []

clear_parts : (d : Debt) → dues_of d ≡ [] → Clear d
clear_parts d none =
    let first = empty_parts (status_due d.status) _ none in
    let second = empty_parts (credit_due d.credit) _ first.1 in
    let third = empty_parts (end_due d.end) _ second.1 in
    record { status = first.0; credit = second.0; reset = third.1 }

endless_owes : (o : Option Debt) → dues_by o ≡ [] → owes without_end o ≡ []
endless_owes None none = refl
endless_owes (Some d) none = let c = clear_parts d none in rw (c.status, c.credit, c.reset) refl

pub taken_back_owes : (m : Debts) (s : ℕ) → dues m ≡ [] → dues (taken_back m s) ≡ []
taken_back_owes m s none = settled_owes m s without_end none (endless_owes (get m s) (none_on m s none))

-- nothing, or one error code
abbrev pub AtMost : ℕ → ℕ → List (ℕ × Due) → Type 0
AtMost s code xs = (xs ≡ []) ⊎ (xs ≡ (s, due.Reset code) ∷ [])

at_most : (s code : ℕ) (xs : List (ℕ × Due)) (ys : List Due) → xs ≡ on s ys → (ys ≡ []) ⊎ (ys ≡ due.Reset code ∷ []) → AtMost s code xs
at_most s code xs ys is (inl none) = inl (is ∙ ap (on s) none)
at_most s code xs ys is (inr one) = inr (is ∙ ap (on s) one)

reset_owes_by : (code : ℕ) (o : Option Debt) → dues_by o ≡ []
    → (owes (with_reset code) o ≡ []) ⊎ (owes (with_reset code) o ≡ due.Reset code ∷ [])
reset_owes_by code None none = inl refl
reset_owes_by code (Some d) none = let c = clear_parts d none in inr (rw c.status refl)

reset_here : (m : Debts) (s code : ℕ) → dues m ≡ []
    → (dues_on (changed m s (with_reset code)) s ≡ []) ⊎ (dues_on (changed m s (with_reset code)) s ≡ due.Reset code ∷ [])
reset_here m s code none =
    let here = changed_here m s (with_reset code) (get m s) refl in
    rw here (reset_owes_by code (get m s) (none_on m s none))

pub reset_owes : (m : Debts) (s code : ℕ) → dues m ≡ [] → AtMost s code (dues (changed m s (with_reset code)))
reset_owes m s code none =
    let n = changed m s (with_reset code) in
    at_most s code (dues n) (dues_on n s) (alone m n s none (λ q apart. changed_elsewhere m s q (with_reset code) (get m s) apart))
    (reset_here m s code none)

shut_same : (o : Option Debt) → owes shut o ≡ dues_by o
shut_same None = refl
shut_same (Some d) = refl

either_way : {xs ys : List Due} → (x : Due) → (xs ≡ []) ⊎ (xs ≡ ys) → (ys ≡ []) ⊎ (ys ≡ x ∷ []) → (xs ≡ []) ⊎ (xs ≡ x ∷ [])
either_way x (inl e) other = inl e
either_way x (inr e) (inl none) = inl (e ∙ none)
either_way x (inr e) (inr one) = inr (e ∙ one)

-- the same where the stream is closed besides
pub closed_reset_owes : (m : Debts) (s code : ℕ) → dues m ≡ [] → AtMost s code (dues (closed (changed m s (with_reset code)) s))
closed_reset_owes m s code none =
    let n = changed m s (with_reset code) in
    let shut_n = changed n s shut in
    let elsewhere : (q : ℕ) → q ≢ s → get (closed n s) q ≡ get m q =
    λ q apart. settled_elsewhere n s q shut apart ∙ changed_elsewhere m s q (with_reset code) (get m s) apart in
    let here : dues_on shut_n s ≡ dues_on n s = changed_here n s shut (get n s) refl ∙ shut_same (get n s) in
    let same = settled_by (is_done_by (get shut_n s)) shut_n s in
    at_most s code (dues (closed n s)) (dues_on (closed n s) s) (alone m (closed n s) s none elsewhere)
    (either_way (due.Reset code) (rw here at same) (reset_here m s code none))
