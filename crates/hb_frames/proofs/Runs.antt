-- What any calls of a reader take, give and leave.
use Rattle.std.proofs.Common.{◌≡◌, ◌⊎◌, inl, inr, ⊎_elim, ℕ, ◌+◌, ◌-◌, ◌≤◌, ◌<◌, min, List, [], ◌∷◌, ◌++◌, length, take, drop}
use Rattle.std.proofs.Common.{refl, ap, ◌∙◌, sym, subst, arith, Bool, true, false, cond, Option, Some, None, Result, Ok, Err}
use Rattle.std.proofs.Common.{length-append, length-drop, length-take}
use Rattle.std.specs.Prelude.{nat_lt}
use Rattle.std.proofs.lemmas.List.{append-nil, append_assoc, take-append-drop, get_or_append_left, get_or-append_right}
use Rattle.std.proofs.lemmas.List.{get_or-take, get_or-drop, get_or_past}
use Rattle.std.proofs.lemmas.Bool.{cases_lt}
use Rattle.std.proofs.lemmas.Bool.Decides.{nat_tests}
use Rattle.hb_frames.specs.RawFrame.{Spells, raw_at, size_at}
use Rattle.hb_frames.specs.Refusals.{first_refusal}
use Rattle.hb_frames.specs.Frames.{Joins, HasNoFrame, AreOctets}
use Rattle.hb_frames.specs.Reading.{Reading, space_of, fed, asked, after_frame, first_of, unless_refused, too_long, offset_after}
use Rattle.hb_frames.specs.Calls.{Call, feeds, asks, fresh, after_calls, taken_by, given_of, given_by, ArePieces, AnyPieces}
use Rattle.hb_frames.specs.Calls.{AllFrames, OffsetCounts}
use Rattle.hb_frames.specs.declared.refusal.Refusal.{Refusal}
use Rattle.hb_frames.proofs.Spelling.{raw_is_spelled}
use Rattle.hb_frames.proofs.FrameLists.{in_front}

-- octets stay octets

pub octets_append : (xs ys : List ℕ) → AreOctets xs → AreOctets ys → AreOctets (xs ++ ys)
octets_append xs ys p q i = ⊎_elim
    (λ (h : i < length xs). rw get_or_append_left (p i))
    (λ (h : length xs ≤ i). rw (get_or-append_right xs ys (length xs) i 0 refl h) (q (i - length xs)))
    (cases_lt i (length xs))

pub octets_take : (n : ℕ) (xs : List ℕ) → AreOctets xs → AreOctets (take n xs)
octets_take n xs p i = ⊎_elim
    (λ (h : i < n). rw (get_or-take n xs i 0 h) (p i))
    (λ (h : n ≤ i).
    let short : length (take n xs) ≤ i = omega (arith, length-take n xs) in rw (get_or_past (take n xs) i 0 short) (omega arith))
    (cases_lt i n)

pub octets_drop : (n : ℕ) (xs : List ℕ) → AreOctets xs → AreOctets (drop n xs)
octets_drop n xs p i = rw (get_or-drop n xs i 0) (p (n + i))

-- what the tests of first_of say where a frame stands in front, where none does, and where one is refused

pub record Tested (short long partial : Bool) (refused : Option Refusal) (m n : ℕ) : Type 0 where
  pub enough : short ≡ false
  pub within : long ≡ false
  pub whole : partial ≡ false
  pub accepted : refused ≡ None
  pub size : m ≡ n

pub tested_some : (short long partial : Bool) (refused : Option Refusal) (m n : ℕ)
    → cond short (Ok None) (cond long (Err too_long) (cond partial (Ok None) (unless_refused refused m))) ≡ Ok (Some n)
    → Tested short long partial refused m n
tested_some true long partial refused m n e = absurd (cc)
tested_some false true partial refused m n e = absurd (cc)
tested_some false false true refused m n e = absurd (cc)
tested_some false false false (Some r) m n e = absurd (cc)
tested_some false false false None m n e = record { enough = refl; within = refl; whole = refl; accepted = refl; size = cc }

pub tested_none : (short long partial : Bool) (refused : Option Refusal) (m : ℕ)
    → cond short (Ok None) (cond long (Err too_long) (cond partial (Ok None) (unless_refused refused m))) ≡ Ok None
    → (short ≡ true) ⊎ (partial ≡ true)
tested_none true long partial refused m e = inl refl
tested_none false true partial refused m e = absurd (cc)
tested_none false false true refused m e = inr refl
tested_none false false false (Some r) m e = absurd (cc)
tested_none false false false None m e = absurd (cc)

-- a frame that the reader gives stands whole in front
pub record IsTaken (max n : ℕ) (held : List ℕ) : Type 0 where
  pub size : n ≡ 9 + size_at held
  pub whole : n ≤ length held
  pub within : size_at held ≤ max
  pub accepted : first_refusal (raw_at held) ≡ None

pub first_some : (max n : ℕ) (held : List ℕ) → first_of max held ≡ Ok (Some n) → IsTaken max n held
first_some max n held e =
    let t = tested_some (nat_lt (length held) 9) (nat_lt max (size_at held)) (nat_lt (length held) (9 + size_at held))
    (first_refusal (raw_at held)) (9 + size_at held) n e in
    let whole : 9 + size_at held ≤ length held = grind (arith, nat_tests, t.whole) in
    record {
      size = sym t.size;
      whole = omega (arith, whole, t.size);
      within = grind (arith, nat_tests, t.within);
      accepted = t.accepted;
    }

pub first_none : (max : ℕ) (held : List ℕ) → first_of max held ≡ Ok None → HasNoFrame held
first_none max held e f spelled more spells is =
    let front = in_front f spelled more held spells is in
    let len : length held ≡ length spelled + length more = ap length is ∙ length-append spelled more in
    let whole : 9 + size_at held ≤ length held = omega (arith, len, front.len, front.size) in
    ⊎_elim
    (λ (h : nat_lt (length held) 9 ≡ true).
    let few : length held < 9 = grind (arith, nat_tests, h) in omega (arith, few, whole))
    (λ (h : nat_lt (length held) (9 + size_at held) ≡ true).
    let few : length held < 9 + size_at held = grind (arith, nat_tests, h) in omega (arith, few, whole))
    (tested_none (nat_lt (length held) 9) (nat_lt max (size_at held)) (nat_lt (length held) (9 + size_at held))
    (first_refusal (raw_at held)) (9 + size_at held) e)

-- any calls

pub asks_step : (r : Reading) (calls : List Call) (found : Result (Option ℕ) Refusal) → first_of r.max r.held ≡ found → AreOctets r.held
    → let later = after_frame r found in
    (AreOctets later.held → Joins (given_by later calls) (after_calls later calls).held (later.held ++ taken_by later calls))
    → Joins (given_of r found ++ given_by later calls) (after_calls later calls).held (r.held ++ taken_by later calls)
asks_step r calls (Ok None) e octets ih = ih octets
asks_step r calls (Err x) e octets ih = ih octets
asks_step r calls (Ok (Some n)) e octets ih =
    let t = first_some r.max n r.held e in
    let whole : 9 + size_at r.held ≤ length r.held = omega (arith, t.size, t.whole) in
    let later = after_frame r (Ok (Some n)) in
    let spells : Spells (raw_at r.held) (take n r.held) =
    subst (λ (k : ℕ). Spells (raw_at r.held) (take k r.held)) (sym t.size) (raw_is_spelled r.held octets whole) in
    let is : r.held ++ taken_by later calls ≡ take n r.held ++ (drop n r.held ++ taken_by later calls) =
    ap (λ xs. xs ++ taken_by later calls) (sym (take-append-drop n r.held))
    ∙ append_assoc (take n r.held) (drop n r.held) (taken_by later calls) in
    (take n r.held, drop n r.held ++ taken_by later calls, spells, is, ih (octets_drop n r.held octets))

pub calls_join : (calls : List Call) (r : Reading) → AreOctets r.held → ArePieces calls
    → Joins (given_by r calls) (after_calls r calls).held (r.held ++ taken_by r calls)
calls_join [] r octets pieces = append-nil r.held
calls_join (feeds piece ∷ calls) r octets pieces =
    let n = min (length piece) (space_of r) in
    let more = octets_append r.held (take n piece) octets (octets_take n piece pieces.0) in
    let later = fed r piece in
    subst (λ (xs : List ℕ). Joins (given_by later calls) (after_calls later calls).held xs)
    (append_assoc r.held (take n piece) (taken_by later calls)) (calls_join calls later more pieces.1)
calls_join (asks ∷ calls) r octets pieces =
    asks_step r calls (first_of r.max r.held) refl octets (λ more. calls_join calls (asked r) more pieces)

pub no_octets : AreOctets []
no_octets i = omega arith

pub any_pieces : AnyPieces
any_pieces max calls pieces = calls_join calls (fresh max) no_octets pieces

pub all_frames : AllFrames
all_frames max calls pieces none = record {
  joined = any_pieces max calls pieces;
  partial = first_none max (after_calls (fresh max) calls).held none;
}

-- how many bytes were given as frames, on the way from one reading to another
pub record Counts (before after taken : ℕ) (from to : ℕ) : Type 0 where
  pub given : ℕ
  pub all : given + after ≡ before + taken
  pub offset : to ≡ offset_after from given

pub asks_count : (r : Reading) (calls : List Call) (found : Result (Option ℕ) Refusal) → first_of r.max r.held ≡ found
    → let later = after_frame r found in
    Counts (length later.held) (length (after_calls later calls).held) (length (taken_by later calls)) later.at (after_calls later calls).at
    → Counts (length r.held) (length (after_calls later calls).held) (length (taken_by later calls)) r.at (after_calls later calls).at
asks_count r calls (Ok None) e ih = ih
asks_count r calls (Err x) e ih = ih
asks_count r calls (Ok (Some n)) e ih =
    let t = first_some r.max n r.held e in
    record { given = n + ih.given; all = omega (arith, ih.all, length-drop n r.held, t.whole); offset = omega (arith, ih.offset) }

pub asked_small : (r : Reading) (found : Result (Option ℕ) Refusal) → r.at ≤ 18446744073709551615
    → (after_frame r found).at ≤ 18446744073709551615
asked_small r (Ok None) small = small
asked_small r (Err x) small = small
asked_small r (Ok (Some n)) small = omega arith

pub calls_count : (calls : List Call) (r : Reading) → r.at ≤ 18446744073709551615
    → Counts (length r.held) (length (after_calls r calls).held) (length (taken_by r calls)) r.at (after_calls r calls).at
calls_count [] r small = record { given = 0; all = omega arith; offset = omega (arith, small) }
calls_count (feeds piece ∷ calls) r small =
    let n = min (length piece) (space_of r) in
    let ih = calls_count calls (fed r piece) small in
    let longer = length-append r.held (take n piece) in
    let taken = length-append (take n piece) (taken_by (fed r piece) calls) in
    record { given = ih.given; all = omega (arith, ih.all, longer, taken); offset = ih.offset }
calls_count (asks ∷ calls) r small =
    asks_count r calls (first_of r.max r.held) refl (calls_count calls (asked r) (asked_small r (first_of r.max r.held) small))

pub offset_counts : OffsetCounts
offset_counts max calls =
    let c = calls_count calls (fresh max) (omega arith) in
    c.offset ∙ ap (offset_after 0) (omega (arith, c.all))
