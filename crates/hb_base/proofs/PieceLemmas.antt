-- The start and the end of a text in pieces.
use Rattle.std.proofs.Common.{◌≡◌, ℕ, ◌+◌, ◌-◌, ◌<◌, ◌≤◌, List, [], ◌∷◌, ◌++◌, length, take, drop, Bool, true, false, ◌&&◌, nat_eq, nat_le, refl, sym, ap, ◌∙◌, arith, append-nil, map, length-append, length-take, length-drop, take-append-drop}
use Rattle.std.proofs.Math.Bool.{and_assoc, and_comm, and-false}
use Rattle.std.proofs.Math.Seq.{drop-append-add}
use Rattle.std.proofs.lemmas.Bool.{leb-true, leb-false}
use Rattle.std.proofs.lemmas.Bool.Decides.{nat_tests}
use Rattle.std.proofs.lemmas.List.{take-append-le, drop-append-le, map-append}
use Rattle.std.proofs.lemmas.List.Folds.{concat-append}
use Rattle.std.specs.Borrow.{Bor}
use Rattle.std.specs.List.{starts_with, ends_with, concat}
use Rattle.std.specs.Str.{bytes_eq}
use Rattle.hb_base.specs.Pieces.{joined}

nat_eq-sym : (a b : ℕ) → nat_eq a b ≡ nat_eq b a
nat_eq-sym a b = grind (arith, nat_tests)

pub bytes_eq-sym : (a b : List ℕ) → bytes_eq a b ≡ bytes_eq b a
bytes_eq-sym [] [] = refl
bytes_eq-sym [] (y ∷ ys) = refl
bytes_eq-sym (x ∷ xs) [] = refl
bytes_eq-sym (x ∷ xs) (y ∷ ys) = rw (nat_eq-sym x y, bytes_eq-sym xs ys) refl

-- part by part, where the first parts are of one length
bytes_eq-append : (a b c d : List ℕ) → length a ≡ length c → bytes_eq (a ++ b) (c ++ d) ≡ (bytes_eq a c && bytes_eq b d)
bytes_eq-append [] b [] d h = refl
bytes_eq-append [] b (y ∷ ys) d h = absurd (omega arith)
bytes_eq-append (x ∷ xs) b [] d h = absurd (omega arith)
bytes_eq-append (x ∷ xs) b (y ∷ ys) d h =
    let same : length xs ≡ length ys = omega arith in
    rw (bytes_eq-append xs b ys d same) (sym (and_assoc (nat_eq x y) (bytes_eq xs ys) (bytes_eq b d)))

-- a longer list is another one
pub bytes_eq-longer : (a b : List ℕ) → length b < length a → bytes_eq a b ≡ false
bytes_eq-longer [] b h = absurd (omega arith)
bytes_eq-longer (x ∷ xs) [] h = refl
bytes_eq-longer (x ∷ xs) (y ∷ ys) h =
    let shorter : length ys < length xs = omega arith in
    rw (bytes_eq-longer xs ys shorter) (and-false (nat_eq x y))

-- a prefix within the first piece
starts_within : (piece more prefix : List ℕ) → length prefix ≤ length piece → starts_with nat_eq (piece ++ more) prefix
    ≡ starts_with nat_eq piece prefix
starts_within piece more prefix h = rw take-append-le refl

-- a prefix that goes on behind the first piece
starts_beyond : (piece more prefix : List ℕ) → length piece ≤ length prefix → starts_with nat_eq (piece ++ more) prefix
    ≡ (bytes_eq piece (take (length piece) prefix) && starts_with nat_eq more (drop (length piece) prefix))
starts_beyond [] more prefix h = refl
starts_beyond (p ∷ ps) more [] h = absurd (omega arith)
starts_beyond (p ∷ ps) more (q ∷ qs) h =
    let fits : length ps ≤ length qs = omega arith in
    rw (starts_beyond ps more qs fits, nat_eq-sym q p)
    (sym (and_assoc (nat_eq p q) (bytes_eq ps (take (length ps) qs)) (starts_with nat_eq more (drop (length ps) qs))))

-- a text that goes on behind the first piece
equals_beyond : (piece more text : List ℕ) → length piece ≤ length text → bytes_eq (piece ++ more) text
    ≡ (bytes_eq piece (take (length piece) text) && bytes_eq more (drop (length piece) text))
equals_beyond piece more text h =
    let same : length piece ≡ length (take (length piece) text) = omega (arith, length-take (length piece) text) in
    ap (bytes_eq (piece ++ more)) (sym (take-append-drop (length piece) text)) ∙ bytes_eq-append piece more (take (length piece) text)
    (drop (length piece) text) same

-- a suffix within the last piece
ends_within : (front piece suffix : List ℕ) → length suffix ≤ length piece → ends_with nat_eq (front ++ piece) suffix
    ≡ ends_with nat_eq piece suffix
ends_within front piece suffix h =
    let place : length (front ++ piece) - length suffix ≡ length front + (length piece - length suffix) =
    omega (arith, length-append front piece) in
    rw (place, drop-append-add front piece (length piece - length suffix)) refl

-- a suffix that begins before the last piece, and within the front
ends_before : (front piece suffix : List ℕ) (k : ℕ) → k + length piece ≡ length suffix → k ≤ length front
    → ends_with nat_eq (front ++ piece) suffix ≡ (bytes_eq piece (drop k suffix) && ends_with nat_eq front (take k suffix))
ends_before front piece suffix k h inside =
    let place : length (front ++ piece) - length suffix ≡ length front - k = omega (arith, length-append front piece) in
    let near : length front - k ≤ length front = omega arith in
    let count : length (take k suffix) ≡ k = omega (arith, length-take k suffix) in
    let same : length (take k suffix) ≡ length (drop (length front - k) front) =
    omega (arith, length-take k suffix, length-drop (length front - k) front) in
    let split = bytes_eq-append (take k suffix) (drop k suffix) (drop (length front - k) front) piece same in
    let whole = ap (λ (xs : List ℕ). bytes_eq xs (drop (length front - k) front ++ piece)) (sym (take-append-drop k suffix)) in
    rw (place, drop-append-le (length front - k) front piece near, count)
    (whole ∙ split ∙ and_comm (bytes_eq (take k suffix) (drop (length front - k) front)) (bytes_eq (drop k suffix) piece)
    ∙ ap (λ (b : Bool). b && bytes_eq (take k suffix) (drop (length front - k) front)) (bytes_eq-sym (drop k suffix) piece))

-- a suffix longer than the whole
ends_outside : (front piece suffix : List ℕ) (k : ℕ) → k + length piece ≡ length suffix → length front < k
    → ends_with nat_eq (front ++ piece) suffix ≡ (bytes_eq piece (drop k suffix) && ends_with nat_eq front (take k suffix))
ends_outside front piece suffix k h outside =
    let long : length (drop (length (front ++ piece) - length suffix) (front ++ piece)) < length suffix =
    omega (arith, length-append front piece, length-drop (length (front ++ piece) - length suffix) (front ++ piece)) in
    let long_front : length (drop (length front - length (take k suffix)) front) < length (take k suffix) =
    omega (arith, length-take k suffix, length-drop (length front - length (take k suffix)) front) in
    bytes_eq-longer suffix (drop (length (front ++ piece) - length suffix) (front ++ piece)) long
    ∙ sym (ap (λ (b : Bool). bytes_eq piece (drop k suffix) && b)
    (bytes_eq-longer (take k suffix) (drop (length front - length (take k suffix)) front) long_front)
    ∙ and-false (bytes_eq piece (drop k suffix)))

ends_beyond : (front piece suffix : List ℕ) (k : ℕ) → k + length piece ≡ length suffix → (b : Bool) → nat_le k (length front) ≡ b
    → ends_with nat_eq (front ++ piece) suffix ≡ (bytes_eq piece (drop k suffix) && ends_with nat_eq front (take k suffix))
ends_beyond front piece suffix k h true is = ends_before front piece suffix k h (leb-true k (length front) is)
ends_beyond front piece suffix k h false is = ends_outside front piece suffix k h (leb-false k (length front) is)

joined-last : (pieces : List (Bor (List ℕ))) (last : Bor (List ℕ)) → joined (pieces ++ last ∷ []) ≡ joined pieces ++ last.now
joined-last pieces last =
    ap concat (map-append (λ (p : Bor (List ℕ)). p.now) pieces (last ∷ [])) ∙ concat-append (map (λ (p : Bor (List ℕ)). p.now) pieces)
    (last.now ∷ []) ∙ ap (λ (xs : List ℕ). joined pieces ++ xs) (append-nil last.now)

module _ (pieces : List (Bor (List ℕ))) (one : Bor (List ℕ)) (more : List (Bor (List ℕ))) (text : List ℕ) where
  pub starts_in_first : pieces ≡ one ∷ more → length text ≤ length one.now → starts_with nat_eq (joined pieces) text
      ≡ starts_with nat_eq one.now text
  starts_in_first is h = rw is (starts_within one.now (joined more) text h)

  pub ends_in_last : pieces ≡ more ++ one ∷ [] → length text ≤ length one.now → ends_with nat_eq (joined pieces) text
      ≡ ends_with nat_eq one.now text
  ends_in_last is h = rw (is, joined-last more one) (ends_within (joined more) one.now text h)

module _ (pieces : List (Bor (List ℕ))) (one : Bor (List ℕ)) (more : List (Bor (List ℕ))) (text front back : List ℕ) (same : Bool) where
  pub starts_in_pieces : pieces ≡ one ∷ more → length one.now ≤ length text → front ≡ take (length one.now) text
      → back ≡ drop (length one.now) text → same ≡ bytes_eq one.now front → starts_with nat_eq (joined pieces) text
      ≡ (same && starts_with nat_eq (joined more) back)
  starts_in_pieces is h front_is back_is same_is = rw (is, same_is, front_is, back_is) (starts_beyond one.now (joined more) text h)

  pub equals_in_pieces : pieces ≡ one ∷ more → length one.now ≤ length text → front ≡ take (length one.now) text
      → back ≡ drop (length one.now) text → same ≡ bytes_eq one.now front → bytes_eq (joined pieces) text
      ≡ (same && bytes_eq (joined more) back)
  equals_in_pieces is h front_is back_is same_is = rw (is, same_is, front_is, back_is) (equals_beyond one.now (joined more) text h)

  pub ends_in_pieces : pieces ≡ more ++ one ∷ [] → length one.now ≤ length text → front ≡ take (length text - length one.now) text
      → back ≡ drop (length text - length one.now) text → same ≡ bytes_eq one.now back → ends_with nat_eq (joined pieces) text
      ≡ (same && ends_with nat_eq (joined more) front)
  ends_in_pieces is h front_is back_is same_is =
      let count : (length text - length one.now) + length one.now ≡ length text = omega arith in
      rw (is, joined-last more one, same_is, front_is, back_is) (ends_beyond (joined more) one.now text (length text - length one.now)
      count (nat_le (length text - length one.now) (length (joined more))) refl)
