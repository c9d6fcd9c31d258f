-- Any calls that end in a fault give the same frames and the same fault.
use Rattle.std.proofs.Common.{◌≡◌, ℕ, ◌+◌, ◌-◌, ◌≤◌, ◌<◌, List, [], ◌∷◌, ◌++◌, length, refl, ap, ◌∙◌, sym, subst, arith, false}
use Rattle.std.proofs.Common.{Option, Some, None, Result, Ok, Err, length-append}
use Rattle.std.specs.Prelude.{nat_lt, slice_index}
use Rattle.std.proofs.lemmas.Bool.Decides.{nat_tests}
use Rattle.hb_frames.specs.RawFrame.{RawFrame, Spells, size_at}
use Rattle.hb_frames.specs.Refusals.{first_refusal}
use Rattle.hb_frames.specs.Frames.{Joins}
use Rattle.hb_frames.specs.Reading.{Reading, fed, asked, after_frame, first_of, fault_of, offset_after}
use Rattle.hb_frames.specs.Calls.{Call, feeds, asks, fresh, after_calls, taken_by, given_of, given_by, OneFault}
use Rattle.hb_frames.specs.declared.refusal.Refusal.{Refusal}
use Rattle.hb_frames.proofs.Spelling.{payload_len}
use Rattle.hb_frames.proofs.FrameLists.{in_front}
use Rattle.hb_frames.proofs.Histories.{joins_more}
use Rattle.hb_frames.proofs.ReadBack.{spelled_is_read}
use Rattle.hb_frames.proofs.Faults.{err_stays, same_octet}
use Rattle.hb_frames.proofs.Runs.{first_some, any_pieces, offset_counts}

-- no reader of this maximum refuses one of the frames
abbrev pub AreAccepted : ℕ → List RawFrame → Type 0
AreAccepted max [] = Unit {0}
AreAccepted max (f ∷ fs) = (length f.payload ≤ max) × (first_refusal f ≡ None) × AreAccepted max fs

pub asks_accept : (r : Reading) (fs : List RawFrame) (found : Result (Option ℕ) Refusal) → first_of r.max r.held ≡ found
    → AreAccepted r.max fs → AreAccepted r.max (given_of r found ++ fs)
asks_accept r fs (Ok None) e more = more
asks_accept r fs (Err x) e more = more
asks_accept r fs (Ok (Some n)) e more =
    let t = first_some r.max n r.held e in
    let whole : 9 + size_at r.held ≤ length r.held = omega (arith, t.size, t.whole) in
    let size = payload_len r.held (size_at r.held) whole in
    (omega (arith, t.within, size), t.accepted, more)

pub same_max : (r : Reading) (found : Result (Option ℕ) Refusal) → (after_frame r found).max ≡ r.max
same_max r (Ok None) = refl
same_max r (Err x) = refl
same_max r (Ok (Some n)) = refl

pub calls_accept : (calls : List Call) (r : Reading) → AreAccepted r.max (given_by r calls)
calls_accept [] r = tt
calls_accept (feeds piece ∷ calls) r = calls_accept calls (fed r piece)
calls_accept (asks ∷ calls) r =
    let fs = given_by (asked r) calls in
    let more = subst (λ (max : ℕ). AreAccepted max fs) (same_max r (first_of r.max r.held)) (calls_accept calls (asked r)) in
    asks_accept r fs (first_of r.max r.held) refl more

-- where an accepted frame stands in front, there is no fault
pub no_fault : (max : ℕ) (f : RawFrame) (spelled more bytes : List ℕ) (x : Refusal) → Spells f spelled
    → length f.payload ≤ max → first_refusal f ≡ None → bytes ≡ spelled ++ more → first_of max bytes ≡ Err x → ⊥
no_fault max f spelled more bytes x spells within accepted is e =
    let test : nat_lt max (length f.payload) ≡ false = grind (arith, nat_tests) in
    let read : first_of max (spelled ++ more) ≡ Ok (Some (length spelled)) =
    (spelled_is_read max f spelled more spells).1 ∙ rw (test, accepted) refl in
    let given : first_of max bytes ≡ Ok (Some (length spelled)) = ap (first_of max) is ∙ read in
    absurd (cc)

pub one_front : (max : ℕ) (frames others : List RawFrame) (bytes rest others_rest : List ℕ) (x y : Refusal)
    → AreAccepted max frames → AreAccepted max others → Joins frames rest bytes → Joins others others_rest bytes
    → first_of max rest ≡ Err x → first_of max others_rest ≡ Err y → (frames ≡ others) × (rest ≡ others_rest)
one_front max [] [] bytes rest others_rest x y a b j k e h = (refl, sym j ∙ k)
one_front max [] (g ∷ gs) bytes rest others_rest x y a b j k e h =
    absurd (no_fault max g k.0 k.1 rest x k.2 b.0 b.1 (sym j ∙ k.3) e)
one_front max (f ∷ fs) [] bytes rest others_rest x y a b j k e h =
    absurd (no_fault max f j.0 j.1 others_rest y j.2 a.0 a.1 (sym k ∙ j.3) h)
one_front max (f ∷ fs) (g ∷ gs) bytes rest others_rest x y a b j k e h =
    let here = in_front f j.0 j.1 bytes j.2 j.3 in
    let there = in_front g k.0 k.1 bytes k.2 k.3 in
    let same_frame : f ≡ g = sym here.frame ∙ there.frame in
    let same_rest : j.1 ≡ k.1 = here.rest ∙ sym there.rest in
    let joins = subst (λ (m : List ℕ). Joins fs rest m) same_rest j.4 in
    let tail = one_front max fs gs k.1 rest others_rest x y a.2 b.2 joins k.4 e h in
    (rw (same_frame, tail.0) refl, tail.1)

pub equal_faults : (r s : Reading) (x y : Refusal) → x ≡ y → r.at ≡ s.at → slice_index r.held 3 ≡ slice_index s.held 3
    → slice_index r.held 4 ≡ slice_index s.held 4 → fault_of r x ≡ fault_of s y
equal_faults r s x y refusal at kind flags = rw (refusal, at, kind, flags) refl

-- octet i of what is held stands in all that comes
pub octet_stands : (held more others others_more : List ℕ) (i : ℕ) → i < length held → i < length others
    → held ++ more ≡ others ++ others_more → slice_index held i ≡ slice_index others i
octet_stands held more others others_more i here there same =
    sym (same_octet held more i here) ∙ ap (λ (xs : List ℕ). slice_index xs i) same ∙ same_octet others others_more i there

pub one_fault : OneFault
one_fault max calls others bytes more others_more x y pieces others_pieces is others_is e h =
    let r = after_calls (fresh max) calls in
    let s = after_calls (fresh max) others in
    let joins = subst (λ (b : List ℕ). Joins (given_by (fresh max) calls) (r.held ++ more) b) (sym is)
    (joins_more (given_by (fresh max) calls) r.held (taken_by (fresh max) calls) more (any_pieces max calls pieces)) in
    let others_join = subst (λ (b : List ℕ). Joins (given_by (fresh max) others) (s.held ++ others_more) b) (sym others_is)
    (joins_more (given_by (fresh max) others) s.held (taken_by (fresh max) others) others_more
    (any_pieces max others others_pieces)) in
    let stays = err_stays max r.held more x e in
    let others_stay = err_stays max s.held others_more y h in
    let same = one_front max (given_by (fresh max) calls) (given_by (fresh max) others) bytes (r.held ++ more)
    (s.held ++ others_more) x y (calls_accept calls (fresh max)) (calls_accept others (fresh max))
    joins others_join stays.1 others_stay.1 in
    let rest = same.1 in
    let at_rest : first_of max (r.held ++ more) ≡ first_of max (s.held ++ others_more) = ap (first_of max) rest in
    let first = stays.1 in
    let second = others_stay.1 in
    let refusal : x ≡ y = cc in
    let enough = stays.0 in
    let others_enough = others_stay.0 in
    let counts : length (taken_by (fresh max) calls) - length r.held ≡ length (taken_by (fresh max) others) - length s.held =
    omega (
      arith,
      ap length is,
      ap length others_is,
      ap length rest,
      length-append (taken_by (fresh max) calls) more,
      length-append (taken_by (fresh max) others) others_more,
      length-append r.held more,
      length-append s.held others_more,
    ) in
    let at : r.at ≡ s.at = offset_counts max calls ∙ ap (offset_after 0) counts ∙ sym (offset_counts max others) in
    let kind = octet_stands r.held more s.held others_more 3 (omega arith) (omega arith) rest in
    let flags = octet_stands r.held more s.held others_more 4 (omega arith) (omega arith) rest in
    (same.0, equal_faults r s x y refusal at kind flags)
