-- What a payment puts, and what is owed afterwards.
use Rattle.std.proofs.Common.{◌≡◌, ℕ, zero, suc, ◌+◌, ◌<◌, ◌≤◌, Bool, true, false, List, [], ◌∷◌, ◌++◌, length, Option, Some, None, ◌⊎◌, inl, inr, refl, ap, sym, ◌∙◌, subst, arith, length-append}
use Rattle.std.specs.Prelude.{nat_lt, ◌==◌, if◌then◌else◌}
use Rattle.std.specs.List.{AllByRecursion}
use Rattle.std.specs.FinMap.{entries, get-entries}
use Rattle.std.proofs.lemmas.Bool.{cases_eq}
use Rattle.std.proofs.lemmas.Bool.Decides.{nat_tests}
use Rattle.std.proofs.lemmas.List.{append_assoc, append-nil}
use Rattle.std.proofs.lemmas.Grind.{flat_map-append}
use Rattle.hb_frames.specs.RawFrame.{RawFrame, spelling, header}
use Rattle.hb_hpack.specs.Encoding.{Writing, opening, header_of, status_header, status_text, status_of}
use Rattle.hb_hpack.specs.declared.spelling.Spelling.TheVariants.{Plain}
use Rattle.hb_hpack.proofs.Statuses.{status_is}
use Rattle.hb_outgoing.specs.Waiting.{Waiting, room_of, spelled, put}
use Rattle.hb_owed.specs.declared.due.Due.{Due}
use Rattle.hb_owed.specs.declared.due.Due.TheVariants as due
use Rattle.hb_owed.specs.Dues.{first, IsDue}
use Rattle.hb_owed.specs.Debts.{Debts, dues, dues_on, dues_by, IsFirstDue}
use Rattle.hb_owed.specs.Frames.{frame_of, size_of}
use Rattle.hb_owed.specs.Paid.{Payment, with_put, paid}
use Rattle.hb_owed.specs.Laws.{frames_for, LacksRoom, IsPayment, PaysInOrder, room_for, PlentyPaysAll, RoomPaysAll}
use Rattle.hb_owed.proofs.Walks.{split, sum_of, find_beyond, nothing_due, something_due, paid_none, paid_stuck, paid_step}

-- the first owed frame, where there is one below a stream
search_below : (m : Debts) (k : ℕ) → ((q : ℕ) → q < k → dues_on m q ≡ []) ⊎ ((x : ℕ × Due) × IsFirstDue m (Some x))
search_below m zero = inl (λ q l. absurd (omega arith))
search_below m (suc k) = elim (search_below m k) [ inl clear ↦ by (dues_on m k) refl clear | inr found ↦ inr found ]
  where
    by : (xs : List Due) → dues_on m k ≡ xs → ((q : ℕ) → q < k → dues_on m q ≡ [])
        → ((q : ℕ) → q < suc k → dues_on m q ≡ []) ⊎ ((x : ℕ × Due) × IsFirstDue m (Some x))
    by [] is clear = inl (λ q l.
        elim (cases_eq q k) [ inl same ↦ ap (dues_on m) same ∙ is | inr apart ↦ clear q (omega (arith, l, apart)) ])
    by (x ∷ xs) is clear = inr ((k, x), (ap first is, clear))

pub first_due_of : (m : Debts) → (o : Option (ℕ × Due)) × IsFirstDue m o
first_due_of m = elim (search_below m (suc (sum_of (entries m)))) [
  | inl clear ↦ (
    None,
    λ q.
        elim (split q (suc (sum_of (entries m)))) [
          | inl l ↦ clear q l
          | inr g ↦ ap dues_by (get-entries m q ∙ find_beyond (entries m) q g)
        ],
  )
  | inr found ↦ (Some found.0, found.1)
]

-- nothing is put
stays : (p : Payment) → LacksRoom (dues p.owed) p.out → IsPayment p p
stays p lacking = record { put = []; owed = refl; queue = sym (append-nil p.out.queue); begun = refl; lacking = lacking }

-- one frame is put in front of others
goes_on : (p new : Payment) (x : ℕ × Due) → dues p.owed ≡ x ∷ dues (with_put x.0 x.1 p).owed → IsPayment (with_put x.0 x.1 p) new
    → IsPayment p new
goes_on p new x is later = record {
  put = x ∷ later.put;
  owed = is ∙ ap (λ xs. x ∷ xs) later.owed;
  queue = later.queue
      ∙ append_assoc p.out.queue (frame_of p.writing x.0 x.1 ∷ []) (frames_for (with_put x.0 x.1 p).writing later.put);
  begun = later.begun;
  lacking = later.lacking;
}

in_order_none : (p : Payment) → IsFirstDue p.owed None → IsPayment p (paid p)
in_order_none p none = subst (IsPayment p) (sym (paid_none p none))
    (stays p (subst (λ xs. LacksRoom xs p.out) (sym (nothing_due p.owed none)) tt))

in_order_some : (p : Payment) (x : ℕ × Due) → IsFirstDue p.owed (Some x) → IsPayment (with_put x.0 x.1 p) (paid (with_put x.0 x.1 p))
    → (b : Bool) → nat_lt (room_of p.out) (size_of x.1) ≡ b → IsPayment p (paid p)
in_order_some p x is later true full =
    let less : room_of p.out < size_of x.1 = grind (arith, nat_tests, full) in
    subst (IsPayment p) (sym (paid_stuck p x is full))
    (stays p (subst (λ xs. LacksRoom xs p.out) (sym (something_due p.owed x is)) less))
in_order_some p x is later false fits =
    subst (IsPayment p) (sym (paid_step p x is fits)) (goes_on p (paid (with_put x.0 x.1 p)) x (something_due p.owed x is) later)

in_order_by : (p : Payment) (o : Option (ℕ × Due)) → IsFirstDue p.owed o
    → ((x : ℕ × Due) → IsFirstDue p.owed (Some x) → IsPayment (with_put x.0 x.1 p) (paid (with_put x.0 x.1 p))) → IsPayment p (paid p)
in_order_by p None none later = in_order_none p none
in_order_by p (Some x) is later = in_order_some p x is (later x is) (nat_lt (room_of p.out) (size_of x.1)) refl

in_order : (n : ℕ) (p : Payment) → length (dues p.owed) ≤ n → IsPayment p (paid p)
in_order zero p h = in_order_by p (first_due_of p.owed).0 (first_due_of p.owed).1 (λ x is.
    let some = ap length (something_due p.owed x is) in absurd (omega (arith, some, h)))
in_order (suc n) p h = in_order_by p (first_due_of p.owed).0 (first_due_of p.owed).1 (λ x is.
    let some = ap length (something_due p.owed x is) in in_order n (with_put x.0 x.1 p) (omega (arith, some, h)))

pub pays_in_order : PaysInOrder
pays_in_order p = in_order (length (dues p.owed)) p (omega arith)

-- the room that a frame takes is at most what is asked for it

-- the block of a status has five octets at most, and one in front of the first
pub status_octets : (status : ℕ) → length (status_of status) ≤ 5
unfolding status_of
status_octets status = by (status == 200) (status == 204) (status == 206) (status == 304) (status == 400) (status == 404) (status == 500)
  where
    by : (a b c d e f g : Bool) → length (if a then 136 ∷ []
        else (if b then 137 ∷ []
        else (if c then 138 ∷ []
        else (if d then 139 ∷ []
        else (if e then 140 ∷ []
        else (if f then 141 ∷ []
        else (if g then 142 ∷ []
        else 8 ∷ 3 ∷ status_text status))))))) ≤ 5
    by true b c d e f g = omega arith
    by false true c d e f g = omega arith
    by false false true d e f g = omega arith
    by false false false true e f g = omega arith
    by false false false false true f g = omega arith
    by false false false false false true g = omega arith
    by false false false false false false true = omega arith
    by false false false false false false false = omega arith

pub opening_octets : (started : Bool) → length (opening started) ≤ 1
opening_octets true = omega arith
opening_octets false = omega arith

frame_len : (f : RawFrame) → length (spelling f) ≡ 9 + length f.payload
frame_len f = length-append (header (length f.payload) f.kind f.flags f.stream) f.payload

size_is_enough : (w : Writing) (s : ℕ) (d : Due) → IsDue d → length (spelling (frame_of w s d)) ≤ size_of d
size_is_enough w s (due.Status status) fits =
    let all = frame_len (frame_of w s (due.Status status)) in
    let parts = length-append (opening w.started) (header_of Plain (status_header status.number)) in
    let same = ap length (status_is status.number fits.0 fits.1) in
    omega (arith, all, parts, same, status_octets status.number, opening_octets w.started)
size_is_enough w s (due.Credit n) fits = omega (arith, frame_len (frame_of w s (due.Credit n)))
size_is_enough w s due.End fits = omega (arith, frame_len (frame_of w s due.End))
size_is_enough w s (due.Reset code) fits = omega (arith, frame_len (frame_of w s (due.Reset code)))

room_behind : (f : RawFrame) (w : Waiting) → room_of w ≤ room_of (put f w) + length (spelling f)
room_behind f w =
    let all = length-append w.rest (spelled (w.queue ++ f ∷ [])) in
    let old = length-append w.rest (spelled w.queue) in
    let queue = ap length (flat_map-append spelling w.queue (f ∷ [])) ∙ length-append (spelled w.queue) (spelled (f ∷ [])) in
    let last = ap length (append-nil (spelling f)) in
    omega (arith, all, old, queue, last)

-- all frames can be put, and there is room for them
abbrev IsPlenty : List (ℕ × Due) → Waiting → Type 0
IsPlenty xs out = AllByRecursion (λ x. IsDue x.1) xs × (room_for xs ≤ room_of out)

plenty_some : (p : Payment) (x : ℕ × Due) → IsFirstDue p.owed (Some x) → IsPlenty (x ∷ dues (with_put x.0 x.1 p).owed) p.out
    → (paid p ≡ paid (with_put x.0 x.1 p)) × IsPlenty (dues (with_put x.0 x.1 p).owed) (with_put x.0 x.1 p).out
plenty_some p x is has =
    let size = size_is_enough p.writing x.0 x.1 has.0.0 in
    let left = room_behind (frame_of p.writing x.0 x.1) p.out in
    let enough : size_of x.1 ≤ room_of p.out = omega (arith, has.1) in
    let test : nat_lt (room_of p.out) (size_of x.1) ≡ false = grind (arith, nat_tests, enough) in
    (paid_step p x is test, (has.0.1, omega (arith, has.1, size, left)))

plenty_by : (p : Payment) (o : Option (ℕ × Due)) → IsFirstDue p.owed o → IsPlenty (dues p.owed) p.out
    → ((x : ℕ × Due) → IsFirstDue p.owed (Some x) → IsPlenty (dues (with_put x.0 x.1 p).owed) (with_put x.0 x.1 p).out
    → dues (paid (with_put x.0 x.1 p)).owed ≡ [])
    → dues (paid p).owed ≡ []
plenty_by p None none has later = ap (λ (q : Payment). dues q.owed) (paid_none p none) ∙ nothing_due p.owed none
plenty_by p (Some x) is has later =
    let next = plenty_some p x is (subst (λ xs. IsPlenty xs p.out) (something_due p.owed x is) has) in
    ap (λ (q : Payment). dues q.owed) next.0 ∙ later x is next.1

plenty : (n : ℕ) (p : Payment) → length (dues p.owed) ≤ n → IsPlenty (dues p.owed) p.out → dues (paid p).owed ≡ []
plenty zero p h has = plenty_by p (first_due_of p.owed).0 (first_due_of p.owed).1 has (λ x is more.
    let some = ap length (something_due p.owed x is) in absurd (omega (arith, some, h)))
plenty (suc n) p h has = plenty_by p (first_due_of p.owed).0 (first_due_of p.owed).1 has (λ x is more.
    let some = ap length (something_due p.owed x is) in plenty n (with_put x.0 x.1 p) (omega (arith, some, h)) more)

pub plenty_pays_all : PlentyPaysAll
plenty_pays_all p fit room = plenty (length (dues p.owed)) p (omega arith) (fit, room)

seventeen : (d : Due) → size_of d ≤ 17
seventeen (due.Status status) = omega arith
seventeen (due.Credit n) = omega arith
seventeen due.End = omega arith
seventeen (due.Reset code) = omega arith

nothing_lacks : (xs : List (ℕ × Due)) (out : Waiting) → LacksRoom xs out → 17 ≤ room_of out → xs ≡ []
nothing_lacks [] out lacking room = refl
nothing_lacks (x ∷ xs) out lacking room = absurd (omega (arith, lacking, room, seventeen x.1))

pub room_pays_all : RoomPaysAll
room_pays_all p room = nothing_lacks (dues (paid p).owed) (paid p).out (pays_in_order p).lacking room
