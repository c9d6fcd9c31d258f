-- A fault stays, whatever is called afterwards.
use Rattle.std.proofs.Common.{◌≡◌, ◌⊎◌, inl, inr, ⊎_elim, ℕ, ◌+◌, ◌%◌, ◌≤◌, ◌<◌, min, List, [], ◌∷◌, ◌++◌, length, take, drop}
use Rattle.std.proofs.Common.{refl, ap, ◌∙◌, sym, subst, arith, Bool, true, false, cond, Option, Some, None, Result, Ok, Err}
use Rattle.std.proofs.Common.{length-append, length-drop}
use Rattle.std.specs.Prelude.{nat_lt, slice_index, slice_range}
use Rattle.std.proofs.lemmas.List.{get_or_append_left, take-append-le, drop-append-le}
use Rattle.std.proofs.lemmas.Bool.Decides.{nat_tests}
use Rattle.hb_frames.specs.RawFrame.{raw_at, size_at}
use Rattle.hb_frames.specs.Octets.{four_at}
use Rattle.hb_frames.specs.Refusals.{first_refusal}
use Rattle.hb_frames.specs.Reading.{Reading, space_of, fed, after_frame, first_of, unless_refused, too_long, fault_of}
use Rattle.hb_frames.specs.Calls.{feeds, asks, after_calls, given_of, given_by, FaultStays}
use Rattle.hb_frames.specs.declared.refusal.Refusal.{Refusal}
use Rattle.hb_frames.proofs.Records.{raw}
use Rattle.hb_frames.proofs.Spelling.{payload_in_front}

-- the header stays what it is when more comes
pub same_octet : (held more : List ℕ) (i : ℕ) → i < length held → slice_index (held ++ more) i ≡ slice_index held i
same_octet held more i h = get_or_append_left held more 0 i h

pub same_size : (held more : List ℕ) → 9 ≤ length held → size_at (held ++ more) ≡ size_at held
same_size held more h =
    rw (same_octet held more 0 (omega arith), same_octet held more 1 (omega arith), same_octet held more 2 (omega arith)) refl

pub same_word : (held more : List ℕ) → 9 ≤ length held → four_at (held ++ more) 5 ≡ four_at held 5
same_word held more h =
    rw (
      same_octet held more 5 (omega arith),
      same_octet held more 6 (omega arith),
      same_octet held more 7 (omega arith),
      same_octet held more 8 (omega arith),
    ) refl

pub same_payload : (held more : List ℕ) (size : ℕ) → 9 + size ≤ length held
    → slice_range (held ++ more) 9 (9 + size) ≡ slice_range held 9 (9 + size)
same_payload held more size whole =
    let nine_le : 9 ≤ length held = omega arith in
    let fits : size ≤ length (drop 9 held) = omega (arith, length-drop 9 held) in
    payload_in_front (held ++ more) size ∙ ap (take size) (drop-append-le 9 held more nine_le)
    ∙ take-append-le size (drop 9 held) more fits ∙ sym (payload_in_front held size)

pub same_parts : (k l f g s t : ℕ) (p q : List ℕ) → k ≡ l → f ≡ g → s ≡ t → p ≡ q → raw k f s p ≡ raw l g t q
same_parts k l f g s t p q kind flags stream payload = rw (kind, flags, stream, payload) refl

pub same_frame : (held more : List ℕ) → 9 + size_at held ≤ length held → raw_at (held ++ more) ≡ raw_at held
same_frame held more whole =
    let nine_le : 9 ≤ length held = omega arith in
    let kind = same_octet held more 3 (omega arith) in
    let flags = same_octet held more 4 (omega arith) in
    let stream = ap (λ n. n % 2147483648) (same_word held more nine_le) in
    let payload = ap (λ n. slice_range (held ++ more) 9 (9 + n)) (same_size held more nine_le)
    ∙ same_payload held more (size_at held) whole in
    same_parts _ _ _ _ _ _ _ _ kind flags stream payload

-- which test refuses
pub tested_err : (short long partial : Bool) (refused : Option Refusal) (m : ℕ) (x : Refusal)
    → cond short (Ok None) (cond long (Err too_long) (cond partial (Ok None) (unless_refused refused m))) ≡ Err x
    → (short ≡ false) × (((long ≡ true) × (too_long ≡ x)) ⊎ ((long ≡ false) × (partial ≡ false) × (refused ≡ Some x)))
tested_err true long partial refused m x e = absurd (cc)
tested_err false true partial refused m x e = (refl, inl (refl, cc))
tested_err false false true refused m x e = absurd (cc)
tested_err false false false (Some r) m x e = (refl, inr (refl, refl, ap Some (cc)))
tested_err false false false None m x e = absurd (cc)

pub refused_long : (max : ℕ) (held : List ℕ) → 9 ≤ length held → max < size_at held → first_of max held ≡ Err too_long
refused_long max held enough long =
    let t : nat_lt (length held) 9 ≡ false = grind (arith, nat_tests) in
    let u : nat_lt max (size_at held) ≡ true = grind (arith, nat_tests) in
    rw (t, u) refl

pub whole_frame : (max : ℕ) (held : List ℕ) → size_at held ≤ max → 9 + size_at held ≤ length held
    → first_of max held ≡ unless_refused (first_refusal (raw_at held)) (9 + size_at held)
whole_frame max held within whole =
    let t : nat_lt (length held) 9 ≡ false = grind (arith, nat_tests) in
    let u : nat_lt max (size_at held) ≡ false = grind (arith, nat_tests) in
    let v : nat_lt (length held) (9 + size_at held) ≡ false = grind (arith, nat_tests) in
    rw (t, u, v) refl

pub err_stays : (max : ℕ) (held more : List ℕ) (x : Refusal) → first_of max held ≡ Err x
    → (9 ≤ length held) × (first_of max (held ++ more) ≡ Err x)
err_stays max held more x e =
    let t = tested_err (nat_lt (length held) 9) (nat_lt max (size_at held)) (nat_lt (length held) (9 + size_at held))
    (first_refusal (raw_at held)) (9 + size_at held) x e in
    let short = t.0 in
    let enough : 9 ≤ length held = grind (arith, nat_tests, short) in
    let longer : length held ≤ length (held ++ more) = omega (arith, length-append held more) in
    let size = same_size held more enough in (
      enough,
      ⊎_elim
          (λ (h : (nat_lt max (size_at held) ≡ true) × (too_long ≡ x)).
          let test = h.0 in
          let long : max < size_at held = grind (arith, nat_tests, test) in
          refused_long max (held ++ more) (omega (arith, longer)) (omega (arith, long, size)) ∙ ap Err h.1)
          (λ (h : (nat_lt max (size_at held) ≡ false) × (nat_lt (length held) (9 + size_at held) ≡ false)
          × (first_refusal (raw_at held) ≡ Some x)).
          let first_test = h.0 in
          let second_test = h.1 in
          let within : size_at held ≤ max = grind (arith, nat_tests, first_test) in
          let whole : 9 + size_at held ≤ length held = grind (arith, nat_tests, second_test) in
          whole_frame max (held ++ more) (omega (arith, within, size)) (omega (arith, whole, size, longer))
          ∙ ap (λ o. unless_refused o (9 + size_at (held ++ more))) (ap first_refusal (same_frame held more whole) ∙ h.2))
          t.1,
    )

pub same_fault : (r : Reading) (more : List ℕ) (x : Refusal) → 9 ≤ length r.held
    → fault_of (record r { held = r.held ++ more; last = [] }) x ≡ fault_of r x
same_fault r more x enough = rw (same_octet r.held more 3 (omega arith), same_octet r.held more 4 (omega arith)) refl

pub fault_stays : FaultStays
fault_stays r x [] e = (e, refl, refl)
fault_stays r x (feeds piece ∷ calls) e =
    let more = take (min (length piece) (space_of r)) piece in
    let stays = err_stays r.max r.held more x e in
    let ih = fault_stays (fed r piece) x calls stays.1 in
    (ih.0, ih.1 ∙ same_fault r more x stays.0, ih.2)
fault_stays r x (asks ∷ calls) e =
    let ih = fault_stays (record r { last = [] }) x calls e in
    subst (λ (found : Result (Option ℕ) Refusal). let later = after_calls (after_frame r found) calls in
    (first_of later.max later.held ≡ Err x) × (fault_of later x ≡ fault_of r x)
    × (given_of r found ++ given_by (after_frame r found) calls ≡ []))
    (sym e) (ih.0, ih.1, ih.2)
