-- What waits on the ways of a link, and whether they are done.
use Rattle.std.proofs.Common.{◌≡◌, ℕ, ◌<◌, ◌≤◌, ◌-◌, ◌==◌, ◌&&◌, not, Bool, true, false, cond, List, [], ◌∷◌, ◌++◌, length, drop, refl, ap, sym, ◌∙◌, arith, length-append, length-drop}
use Rattle.std.proofs.lemmas.Bool.{false≢true, and_parts}
use Rattle.std.proofs.lemmas.Bool.Decides.{nat_tests}
use Rattle.std.proofs.lemmas.List.{append-nil, append_assoc, nil_from_length}
use Rattle.std.proofs.Math.Seq.{drop-append_seam}
use Rattle.hb_base.specs.declared.door.Door.{Door}
use Rattle.hb_base.specs.declared.door.Door.TheVariants as door
use Rattle.hb_tunnel.specs.Way.{Way, after, takes, ends, is_done}
use Rattle.hb_front.specs.Room.{longest_front}
use Rattle.hb_captured.specs.Calm.{room}
use Rattle.hb_captured.specs.Captured.{Captured, ring_up, is_raw, ends_if, may_shut_up, may_shut}

-- a way that is done has ended, and nothing waits on it
pub done_ended : (w : Way) → is_done w ≡ true → w.has_ended ≡ true
done_ended w is = (and_parts w.has_ended (length w.held == 0) is).0

pub done_empty : (w : Way) → is_done w ≡ true → w.held ≡ []
done_empty w is =
    let none = (and_parts w.has_ended (length w.held == 0) is).1 in nil_from_length w.held (grind (arith, nat_tests, none))

-- the other way round
pub is_done_so : (w : Way) → w.has_ended ≡ true → w.held ≡ [] → is_done w ≡ true
is_done_so w has_ended none =
    ap (λ (b : Bool). b && length w.held == 0) has_ended ∙ ap (λ (bs : List ℕ). length bs == 0) none

-- nothing waits where all that came went
pub none_waits : (came went held : List ℕ) → came ≡ went ++ held → went ≡ came → held ≡ []
none_waits came went held is all =
    nil_from_length held (omega (arith, ap length is, ap length all, length-append went held))

-- a way that more may come on hasn't ended
pub has_room : (size : ℕ) (w : Way) → 0 < room size w → w.has_ended ≡ false
has_room size w some = by w.has_ended refl
  where
    by : (b : Bool) → w.has_ended ≡ b → w.has_ended ≡ false
    by false is = is
    by true is = absurd (let none : room size w ≡ 0 = ap (λ (c : Bool). cond c 0 (size - length w.held)) is in omega (arith, some, none))

-- what is done stays so where it ends again, and where more is taken
pub done_again : (w : Way) → is_done w ≡ true → is_done (after w ends) ≡ true
done_again w is = (and_parts w.has_ended (length w.held == 0) is).1

pub done_taken : (w : Way) (n : ℕ) → is_done w ≡ true → is_done (after w (takes n)) ≡ true
done_taken w n is =
    is_done_so (after w (takes n)) (done_ended w is)
    (nil_from_length (drop n w.held) (omega (arith, length-drop n w.held, ap length (done_empty w is))))

-- nothing comes on one that is done
pub done_full : (size : ℕ) (w : Way) (bytes : List ℕ) → is_done w ≡ true → 0 < length bytes → length bytes ≤ room size w → ⊥
done_full size w bytes is some most =
    false≢true (sym (has_room size w (omega (arith, some, most))) ∙ done_ended w is)

-- what fits a ring may come
pub fits_more : (size : ℕ) (w : Way) (bytes : List ℕ) → length bytes ≤ room size w → length w.held ≤ size → length (w.held ++ bytes) ≤ size
fits_more size w bytes most fits = by w.has_ended refl
  where
    by : (b : Bool) → w.has_ended ≡ b → length (w.held ++ bytes) ≤ size
    by true is =
        let none : room size w ≡ 0 = ap (λ (c : Bool). cond c 0 (size - length w.held)) is in
        omega (arith, length-append w.held bytes, most, none, fits)
    by false is =
        let some : room size w ≡ size - length w.held = ap (λ (c : Bool). cond c 0 (size - length w.held)) is in
        omega (arith, length-append w.held bytes, most, some, fits)

-- what goes leaves less
pub fits_less : (size : ℕ) (held bytes : List ℕ) → length held ≤ size → length (drop (length bytes) held) ≤ size
fits_less size held bytes fits = omega (arith, length-drop (length bytes) held, fits)

-- bytes that come behind others
pub comes_behind : (came went held bytes : List ℕ) → came ≡ went ++ held → came ++ bytes ≡ (went ++ []) ++ (held ++ bytes)
comes_behind came went held bytes is =
    ap (λ (xs : List ℕ). xs ++ bytes) is ∙ append_assoc went held bytes
    ∙ ap (λ (xs : List ℕ). xs ++ (held ++ bytes)) (sym (append-nil went))

-- the first of those that wait go
pub goes_first : (came went held bytes rest : List ℕ) → came ≡ went ++ held → held ≡ bytes ++ rest
    → came ≡ (went ++ bytes) ++ drop (length bytes) held
goes_first came went held bytes rest is first =
    is ∙ ap (λ (xs : List ℕ). went ++ xs) first ∙ sym (append_assoc went bytes rest)
    ∙ ap (λ (xs : List ℕ). (went ++ bytes) ++ xs)
    (sym (ap (drop (length bytes)) first ∙ drop-append_seam bytes rest))

pub none_of : (went held : List ℕ) → [] ≡ went ++ held → went ≡ []
none_of [] held is = refl
none_of (x ∷ xs) held is = absurd (cc)

-- a front header fits each door's ring
pub front_fits : (d : Door) → longest_front ≤ ring_up d
front_fits door.Inbound = omega arith
front_fits door.Outbound = omega arith
front_fits door.Plain = omega arith

-- an end leaves what waits
pub ends_held : (end : Bool) (w : Way) → (ends_if end w).held ≡ w.held
ends_held true w = refl
ends_held false w = refl

-- WHAT MAY BE SHUT

pub not_true : (b : Bool) → not b ≡ true → b ≡ false
not_true true is = absurd (false≢true is)
not_true false is = refl

-- the other one has ended, all that came of it is written, and it isn't shut yet
pub shuts_up_so : (x : Captured) → may_shut_up x ≡ true → (is_done x.ways.up ≡ true) × (x.up_shut ≡ false)
shuts_up_so x may =
    let (raw_through, open_yet) = and_parts (is_raw x && is_done x.ways.up) (not x.up_shut) may in
    ((and_parts (is_raw x) (is_done x.ways.up) raw_through).1, not_true x.up_shut open_yet)

pub shuts_down_so : (x : Captured) → may_shut x ≡ true → (is_done x.ways.down ≡ true) × (x.shut ≡ false)
shuts_down_so x may =
    let (through, open_yet) = and_parts (is_done x.ways.down) (not x.shut) may in (through, not_true x.shut open_yet)
