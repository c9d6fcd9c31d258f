-- All owed frames, walked over by rising streams.
use Rattle.std.proofs.Common.{◌≡◌, ◌≢◌, ℕ, zero, suc, ◌+◌, ◌<◌, ◌≤◌, leb, Bool, true, false, cond, ◌==◌, List, [], ◌∷◌, ◌++◌, map, length, Option, Some, None, is_some, is_none, IfSome, ◌⊎◌, inl, inr, refl, ap, sym, ◌∙◌, subst, arith}
use Rattle.std.specs.List.{flat_map}
use Rattle.std.specs.declared.cmp.Ordering.{Ordering}
use Rattle.std.specs.declared.cmp.Ordering.TheVariants.{Less, Equal, Greater}
use Rattle.std.specs.Ordering.{nat_cmp, MatchOrdering}
use Rattle.std.specs.Cmp.{nat_cmp_total, ranked, unsigned_tied}
use Rattle.std.specs.FinMap.{empty, entries, find, get, insert, remove, retain_keys, put, get-empty, get-entries, get-retain_keys, entries-insert, same_map, nat_cmp-IsAntisymmetric, len, len-entries, len-empty}
use Rattle.std.proofs.lemmas.Option.{same_Some}
use Rattle.std.proofs.lemmas.Bool.{false≢true, cases_eq, eq-eqb, ne_eqb, leb-true, leb-false}
use Rattle.hb_map.specs.Keyed.{IsFirstFrom}
use Rattle.hb_map.proofs.Laws.{put_here, put_elsewhere, removed_here, removed_elsewhere, len_without_one, written_here, written_elsewhere}
use Rattle.hb_owed.specs.declared.due.Due.{Due}
use Rattle.hb_owed.specs.declared.due.Due.TheVariants as due
use Rattle.hb_owed.specs.declared.status.Status.{Status}
use Rattle.hb_owed.specs.Dues.{Debt, dues_of, first, is_nil, is_done, without}
use Rattle.std.proofs.lemmas.Bool.Decides.{nat_tests}
use Rattle.hb_owed.specs.Debts.{Debts, changed, changed_by, settled, struck, is_done_by, dues_on, dues_by, tagged, dues, IsFirstDue}
use Rattle.hb_frames.specs.Numbers.{largest}
use Rattle.hb_outgoing.specs.Waiting.{Waiting, room_of}
use Rattle.hb_hpack.specs.Encoding.{Writing}
use Rattle.hb_owed.specs.Frames.{size_of}
use Rattle.hb_owed.specs.Paid.{Payment, with_put, put_while_fits, paid}
use Rattle.std.specs.Prelude.{nat_lt, ◌&&◌}

pub split : (q from : ℕ) → (q < from) ⊎ (from ≤ q)
split q from = by (leb from q) refl
  where
    by : (b : Bool) → leb from q ≡ b → (q < from) ⊎ (from ≤ q)
    by true e = inr (leb-true from q e)
    by false e = inl (leb-false from q e)

-- the records from one stream on
abbrev from_on : ℕ → Debts → Debts
from_on k m = retain_keys m (leb k)

get_from : (k : ℕ) (m : Debts) (q : ℕ) → get (from_on k m) q ≡ cond (leb k q) (get m q) None
get_from k m q = get-retain_keys m (leb k) q (λ x tied. ap (leb k) (sym (nat_cmp-IsAntisymmetric q x tied)))

leb_yes : (k q : ℕ) → k ≤ q → leb k q ≡ true
leb_yes k q h = by (leb k q) refl
  where
    by : (b : Bool) → leb k q ≡ b → b ≡ true
    by true e = refl
    by false e = let less : q < k = leb-false k q e in absurd (omega arith)

leb_no : (k q : ℕ) → q < k → leb k q ≡ false
leb_no k q h = by (leb k q) refl
  where
    by : (b : Bool) → leb k q ≡ b → b ≡ false
    by true e = let more : k ≤ q = leb-true k q e in absurd (omega arith)
    by false e = refl

get_above : (k : ℕ) (m : Debts) (q : ℕ) → k ≤ q → get (from_on k m) q ≡ get m q
get_above k m q h = get_from k m q ∙ ap (λ b. cond b (get m q) None) (leb_yes k q h)

get_below : (k : ℕ) (m : Debts) (q : ℕ) → q < k → get (from_on k m) q ≡ None
get_below k m q h = get_from k m q ∙ ap (λ b. cond b (get m q) None) (leb_no k q h)

same_by : (m n : Debts) → ((q : ℕ) → get m q ≡ get n q) → m ≡ n
same_by m n h = same_map nat_cmp_total nat_cmp-IsAntisymmetric m n h

-- maps that agree from one stream on
same_from : (k : ℕ) (m n : Debts) → ((q : ℕ) → k ≤ q → get m q ≡ get n q) → from_on k m ≡ from_on k n
same_from k m n h = same_by _ _ (λ q.
    elim (split q k) [
      | inl l ↦ get_below k m q l ∙ sym (get_below k n q l)
      | inr g ↦ get_above k m q g ∙ h q g ∙ sym (get_above k n q g)
    ])

from_first : (m : Debts) → from_on 0 m ≡ m
from_first m = same_by _ _ (λ q. get_above 0 m q (omega arith))

-- a stream without a record
from_nowhere : (m : Debts) (s : ℕ) → get m s ≡ None → from_on s m ≡ from_on (suc s) m
from_nowhere m s none = same_by _ _ (λ q.
    elim (split q (suc s)) [
      | inl l ↦ elim (cases_eq q s) [
        | inl same ↦ get_above s m q (omega (arith, same)) ∙ ap (get m) same ∙ none ∙ sym (get_below (suc s) m q l)
        | inr apart ↦ get_below s m q (omega (arith, apart)) ∙ sym (get_below (suc s) m q l)
      ]
      | inr g ↦ get_above s m q (omega arith) ∙ sym (get_above (suc s) m q g)
    ])

-- and with one
from_here : (m : Debts) (s : ℕ) (d : Debt) → get m s ≡ Some d → from_on s m ≡ insert (from_on (suc s) m) s d
from_here m s d some = same_by _ _ (λ q.
    elim (cases_eq q s) [
      | inl same ↦ get_above s m q (omega (arith, same)) ∙ ap (get m) same ∙ some
          ∙ sym (ap (get (insert (from_on (suc s) m) s d)) same ∙ put_here (from_on (suc s) m) s d)
      | inr apart ↦ elim (split q s) [
        | inl l ↦ get_below s m q l ∙ sym (put_elsewhere (from_on (suc s) m) s d q apart ∙ get_below (suc s) m q (omega arith))
        | inr g ↦ get_above s m q g
            ∙ sym (put_elsewhere (from_on (suc s) m) s d q apart ∙ get_above (suc s) m q (omega (arith, g, apart)))
      ]
    ])

less_by : (a b : ℕ) (r : Ordering) → MatchOrdering r (a < b) (a ≡ b) (b < a) → a < b → r ≡ Less
less_by a b Less l h = refl
less_by a b Equal e h = absurd (omega arith)
less_by a b Greater l h = absurd (omega arith)

is_less : (a b : ℕ) → a < b → nat_cmp a b ≡ Less
is_less a b h = less_by a b (nat_cmp a b) (ranked a b _ refl) h

-- an entry under a number below all others is the first
put_front : (s : ℕ) (d : Debt) (m : Debts) → ((q : ℕ) → q < suc s → get m q ≡ None) → put nat_cmp s d (entries m) ≡ (s, d) ∷ entries m
put_front s d m below = by (entries m) (λ q. sym (get-entries m q))
  where
    by : (es : List (ℕ × Debt)) → ((q : ℕ) → find nat_cmp q es ≡ get m q) → put nat_cmp s d es ≡ (s, d) ∷ es
    by [] found = refl
    by (e ∷ es) found =
        let there : get m e.0 ≡ Some e.1 =
        sym (found e.0) ∙ ap (λ b. cond b (Some e.1) (find nat_cmp e.0 es)) (unsigned_tied e.0 e.0 ∙ eq-eqb e.0 e.0 refl) in
        elim (split e.0 (suc s)) [
          | inl l ↦ absurd (false≢true (ap is_some (sym (below e.0 l) ∙ there)))
          | inr g ↦ rw (is_less s e.0 g) refl
        ]

-- the frames that are owed from one stream on
unfoldable pub dues_from : ℕ → Debts → List (ℕ × Due)
dues_from k m = flat_map tagged (entries (from_on k m))

pub all_from : (m : Debts) → dues m ≡ dues_from 0 m
unfolding dues dues_from
all_from m = ap (λ n. flat_map tagged (entries n)) (sym (from_first m))

pub dues_same : (k : ℕ) (m n : Debts) → ((q : ℕ) → k ≤ q → get m q ≡ get n q) → dues_from k m ≡ dues_from k n
unfolding dues_from
dues_same k m n h = ap (λ n. flat_map tagged (entries n)) (same_from k m n h)

abbrev pub on : ℕ → List Due → List (ℕ × Due)
on s xs = map (λ d. (s, d)) xs

dues_by_step : (m : Debts) (s : ℕ) (o : Option Debt) → get m s ≡ o → dues_from s m ≡ on s (dues_by o) ++ dues_from (suc s) m
unfolding dues_from
dues_by_step m s None none = ap (λ n. flat_map tagged (entries n)) (from_nowhere m s none)
dues_by_step m s (Some d) some =
    let least = put_front s d (from_on (suc s) m) (λ q l. get_below (suc s) m q l) in
    ap (flat_map tagged) (ap entries (from_here m s d some) ∙ entries-insert nat_cmp_total (from_on (suc s) m) s d ∙ least)

-- the frames of one stream stand in front of those of all higher ones
pub dues_step : (m : Debts) (s : ℕ) → dues_from s m ≡ on s (dues_on m s) ++ dues_from (suc s) m
dues_step m s = dues_by_step m s (get m s) refl

-- nothing is owed below a stream
pub dues_up_to : (m : Debts) (s : ℕ) → ((q : ℕ) → q < s → dues_on m q ≡ []) → dues m ≡ dues_from s m
dues_up_to m zero clear = all_from m
dues_up_to m (suc s) clear =
    dues_up_to m s (λ q l. clear q (omega arith)) ∙ dues_step m s
    ∙ ap (λ xs. on s xs ++ dues_from (suc s) m) (clear s (omega arith))

abbrev pub sum_of : List (ℕ × Debt) → ℕ
sum_of [] = 0
sum_of (e ∷ es) = e.0 + sum_of es

pub find_beyond : (es : List (ℕ × Debt)) (q : ℕ) → sum_of es < q → find nat_cmp q es ≡ None
find_beyond [] q h = refl
find_beyond (e ∷ es) q h =
    let apart : q ≢ e.0 = λ same. let never : e.0 + sum_of es < e.0 = subst (λ n. e.0 + sum_of es < n) same h in omega arith in
    ap (λ b. cond b (Some e.1) (find nat_cmp q es)) (unsigned_tied q e.0 ∙ ne_eqb q e.0 apart)
    ∙ find_beyond es q (omega arith)

pub nothing_from : (m : Debts) (k : ℕ) → ((q : ℕ) → k ≤ q → get m q ≡ None) → dues_from k m ≡ []
unfolding dues_from
nothing_from m k none =
    let gone : from_on k m ≡ empty = same_by _ _ (λ q.
    elim (split q k) [
      | inl l ↦ get_below k m q l ∙ sym (get-empty nat_cmp q)
      | inr g ↦ get_above k m q g ∙ none q g ∙ sym (get-empty nat_cmp q)
    ]) in
    ap (flat_map tagged) (no_entries (entries (from_on k m)) (sym (len-entries (from_on k m)) ∙ ap (λ (n : Debts). len n) gone
    ∙ len-empty nat_cmp Debt))
  where
    no_entries : (es : List (ℕ × Debt)) → length es ≡ 0 → es ≡ []
    no_entries [] h = refl
    no_entries (e ∷ es) h = absurd (omega arith)

-- nothing is owed on any stream
pub nothing_due : (m : Debts) → IsFirstDue m None → dues m ≡ []
nothing_due m clear =
    let beyond = suc (sum_of (entries m)) in
    dues_up_to m beyond (λ q l. clear q)
    ∙ nothing_from m beyond (λ q g. get-entries m q ∙ find_beyond (entries m) q g)

-- the streams in front of the next record owe nothing
abbrev pub AreClear : Debts → Option ℕ → Type 0
AreClear m None = (q : ℕ) → dues_on m q ≡ []
AreClear m (Some next) = (next ≤ largest) × ((q : ℕ) → q < next → dues_on m q ≡ [])

pub clear_up_to : (m : Debts) (from : ℕ) (next : Option ℕ) → IsFirstFrom m from next → IfSome next (λ n. n ≤ largest)
    → ((q : ℕ) → q < from → dues_on m q ≡ []) → AreClear m next
clear_up_to m from None none small clear =
    λ q. elim (split q from) [ inl l ↦ clear q l | inr g ↦ ap dues_by (none q g) ]
clear_up_to m from (Some next) least small clear = (
  small,
  λ q less. elim (split q from) [ inl l ↦ clear q l | inr g ↦ ap dues_by (least.2 q g less) ],
)

pub clear_before : (m : Debts) (next : Option ℕ) → IsFirstFrom m 0 next → IfSome next (λ n. n ≤ largest) → AreClear m next
clear_before m next least small = clear_up_to m 0 next least small (λ q l. absurd (omega arith))

nil_of : (xs : List Due) → first xs ≡ None → xs ≡ []
nil_of [] e = refl
nil_of (x ∷ xs) e = absurd (false≢true (sym (ap is_some e)))

-- so does the next, and then the streams in front of the one behind it
pub clear_behind : (m : Debts) (s : ℕ) (next : Option ℕ) → AreClear m (Some s) → first (dues_on m s) ≡ None → IsFirstFrom m (s + 1) next
    → IfSome next (λ n. n ≤ largest) → AreClear m next
clear_behind m s next clear none behind small = clear_up_to m (s + 1) next behind small (λ q l.
    elim (cases_eq q s) [
      | inl same ↦ ap (dues_on m) same ∙ nil_of (dues_on m s) none
      | inr apart ↦ clear.1 q (omega (arith, l, apart))
    ])

-- the frames that are left on a stream once the first was put

abbrev debt_of : Option Status → ℕ → Bool → Option ℕ → Bool → Debt
debt_of status credit end reset closed = record { status = status; credit = credit; end = end; reset = reset; closed = closed }

abbrev IsLeft : Debt → Due → Type 0
IsLeft d x = dues_of d ≡ x ∷ dues_of (without x d)

left_reset : (r : Option ℕ) (c : Bool) (x : Due) → first (dues_of (debt_of None 0 false r c)) ≡ Some x → IsLeft (debt_of None 0 false r c) x
left_reset None c x e = absurd (false≢true (ap is_some e))
left_reset (Some code) c x e = subst (IsLeft (debt_of None 0 false (Some code) c)) (same_Some (due.Reset code) x e) refl

left_end : (e : Bool) (r : Option ℕ) (c : Bool) (x : Due) → first (dues_of (debt_of None 0 e r c)) ≡ Some x
    → IsLeft (debt_of None 0 e r c) x
left_end true r c x e = subst (IsLeft (debt_of None 0 true r c)) (same_Some due.End x e) refl
left_end false r c x e = left_reset r c x e

left_credit : (n : ℕ) (e : Bool) (r : Option ℕ) (c : Bool) (x : Due) → first (dues_of (debt_of None n e r c)) ≡ Some x
    → IsLeft (debt_of None n e r c) x
left_credit zero e r c x is = left_end e r c x is
left_credit (suc n) e r c x is =
    let test : (suc n == 0) ≡ false = grind (arith, nat_tests) in
    let is' = rw test at is in
    subst (IsLeft (debt_of None (suc n) e r c)) (same_Some (due.Credit (suc n)) x is') (rw test refl)

left_on : (s : Option Status) (n : ℕ) (e : Bool) (r : Option ℕ) (c : Bool) (x : Due) → first (dues_of (debt_of s n e r c)) ≡ Some x
    → IsLeft (debt_of s n e r c) x
left_on None n e r c x is = left_credit n e r c x is
left_on (Some status) n e r c x is = subst (IsLeft (debt_of (Some status) n e r c)) (same_Some (due.Status status) x is) refl

pub left_of : (d : Debt) (x : Due) → first (dues_of d) ≡ Some x → IsLeft d x
left_of d x is = left_on d.status d.credit d.end d.reset d.closed x is

-- a record that changes, and goes where it is done

settled_by : (m : Debts) (s q : ℕ) (b : Bool) → q ≢ s → get (cond b (remove m s) m) q ≡ get m q
settled_by m s q true apart = removed_elsewhere m s q apart
settled_by m s q false apart = refl

pub changed_elsewhere : (m : Debts) (s q : ℕ) (change : Debt → Debt) (o : Option Debt) → q ≢ s → get (changed_by m s change o) q ≡ get m q
changed_elsewhere m s q change None apart = refl
changed_elsewhere m s q change (Some d) apart = written_elsewhere m s (change d) q apart

pub settled_elsewhere : (m : Debts) (s q : ℕ) (change : Debt → Debt) → q ≢ s → get (settled (changed m s change) s) q ≡ get m q
settled_elsewhere m s q change apart =
    let n = changed m s change in
    settled_by n s q (is_done_by (get n s)) apart ∙ changed_elsewhere m s q change (get m s) apart

done_owes : (d : Debt) → is_done d ≡ true → dues_of d ≡ []
done_owes d done = by (dues_of d) d.closed done
  where
    by : (xs : List Due) (c : Bool) → (c && is_nil xs) ≡ true → xs ≡ []
    by [] c e = refl
    by (x ∷ xs) true e = absurd (false≢true e)
    by (x ∷ xs) false e = absurd (false≢true e)

settled_here_by : (m : Debts) (s : ℕ) (o : Option Debt) (b : Bool) → get m s ≡ o → is_done_by o ≡ b
    → dues_by (get (cond b (remove m s) m) s) ≡ dues_by o
settled_here_by m s o false is done = ap dues_by is
settled_here_by m s None true is done = absurd (false≢true done)
settled_here_by m s (Some d) true is done = ap dues_by (removed_here m s) ∙ sym (done_owes d done)

settled_here : (m : Debts) (s : ℕ) → dues_on (settled m s) s ≡ dues_on m s
settled_here m s = settled_here_by m s (get m s) (is_done_by (get m s)) refl refl

changed_here : (m : Debts) (s : ℕ) (change : Debt → Debt) (d : Debt) → get m s ≡ Some d
    → dues_on (changed m s change) s ≡ dues_of (change d)
changed_here m s change d some =
    ap (λ o. dues_by (get (changed_by m s change o) s)) some
    ∙ ap dues_by (written_here m s (change d) (ap is_some some))

first_struck_by : (m : Debts) (s : ℕ) (x : Due) (o : Option Debt) → get m s ≡ o → first (dues_by o) ≡ Some x
    → dues_by o ≡ x ∷ dues_on (struck m s x) s
first_struck_by m s x None is first_is = absurd (false≢true (ap is_some first_is))
first_struck_by m s x (Some d) is first_is =
    left_of d x first_is
    ∙ ap (λ xs. x ∷ xs) (sym (settled_here (changed m s (without x)) s ∙ changed_here m s (without x) d is))

-- the first of all owed frames, and the others
pub something_due : (m : Debts) (x : ℕ × Due) → IsFirstDue m (Some x) → dues m ≡ x ∷ dues (struck m x.0 x.1)
something_due m x is =
    let s = x.0 in
    let n = struck m s x.1 in
    let others : (q : ℕ) → q ≢ s → get n q ≡ get m q = λ q apart. settled_elsewhere m s q (without x.1) apart in
    let head = first_struck_by m s x.1 (get m s) refl is.0 in
    let clear : (q : ℕ) → q < s → dues_on n q ≡ [] = λ q l. ap dues_by (others q (omega arith)) ∙ is.1 q l in
    let behind : dues_from (suc s) n ≡ dues_from (suc s) m = dues_same (suc s) n m (λ q g. others q (omega arith)) in
    dues_up_to m s is.1 ∙ dues_step m s ∙ ap (λ xs. on s xs ++ dues_from (suc s) m) head
    ∙ ap (λ xs. x ∷ xs) (sym (dues_up_to n s clear ∙ dues_step n s ∙ ap (λ xs. on s (dues_on n s) ++ xs) behind))

-- paying

abbrev pub payment : Debts → Waiting → Writing → Payment
payment owed out writing = record { owed = owed; out = out; writing = writing }

pub paid_none : (p : Payment) → IsFirstDue p.owed None → paid p ≡ p
paid_none p none = ap (λ xs. put_while_fits xs p) (nothing_due p.owed none)

pub paid_stuck : (p : Payment) (x : ℕ × Due) → IsFirstDue p.owed (Some x) → nat_lt (room_of p.out) (size_of x.1) ≡ true → paid p ≡ p
paid_stuck p x is full =
    ap (λ xs. put_while_fits xs p) (something_due p.owed x is)
    ∙ ap (λ b. cond b p (put_while_fits (dues (struck p.owed x.0 x.1)) (with_put x.0 x.1 p))) full

pub paid_step : (p : Payment) (x : ℕ × Due) → IsFirstDue p.owed (Some x) → nat_lt (room_of p.out) (size_of x.1) ≡ false
    → paid p ≡ paid (with_put x.0 x.1 p)
paid_step p x is fits =
    ap (λ xs. put_while_fits xs p) (something_due p.owed x is)
    ∙ ap (λ b. cond b p (put_while_fits (dues (struck p.owed x.0 x.1)) (with_put x.0 x.1 p))) fits

pub falls : (m : Debts) (x : ℕ × Due) → IsFirstDue m (Some x) → length (dues (struck m x.0 x.1)) < length (dues m)
falls m x is = let len = ap length (something_due m x is) in omega (arith, len)

pub is_nil_due : (m : Debts) (o : Option (ℕ × Due)) → IsFirstDue m o → is_none o ≡ is_nil (dues m)
is_nil_due m None none = sym (ap is_nil (nothing_due m none))
is_nil_due m (Some x) is = sym (ap is_nil (something_due m x is))

-- taking records out one after another

pub none_left : (m : Debts) → IsFirstFrom m 0 None → m ≡ empty
none_left m none = same_by m empty (λ q. none q (omega arith) ∙ sym (get-empty nat_cmp q))

pub one_less : (m : Debts) (s : ℕ) → IsFirstFrom m 0 (Some s) → len (remove m s) < len m
one_less m s least = let less = len_without_one m s least.1 in omega (arith, less)
