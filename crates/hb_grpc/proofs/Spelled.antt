-- What spells a message is read as it, and what is read spells it.
use Rattle.std.proofs.Common.{◌≡◌, ⊎_elim, ℕ, ◌+◌, ◌-◌, ◌≤◌, ◌<◌, ◌^◌, List, [], ◌∷◌, ◌++◌, length, take, drop, refl, ap, ap₂, ◌∙◌, sym}
use Rattle.std.proofs.Common.{arith, false, Some, Ok, length-append, length-take}
use Rattle.std.specs.Prelude.{nat_lt, ◌==◌}
use Rattle.std.specs.Int.{w32, to_be_bytes, from_be_bytes}
use Rattle.std.proofs.lemmas.Nat.{be_bytes_4, from_be_bytes-to_be_bytes_4}
use Rattle.std.proofs.lemmas.List.{get_or_append_left, get_or-append_right, get_or-take, get_or-drop, get_or_past}
use Rattle.std.proofs.Math.Seq.{take-append_seam, take-append-add}
use Rattle.std.proofs.lemmas.Bool.{cases_lt}
use Rattle.std.proofs.lemmas.Bool.Decides.{nat_tests}
use Rattle.hb_grpc.specs.Message.{spelling, AreOctets}
use Rattle.hb_grpc.specs.Reading.{announced, first_of, whole_of, size_at, answer_of, held_of}
use Rattle.hb_grpc.specs.Pieces.{SentIsRead}
use Rattle.hb_grpc.proofs.Fronts.{sized}
use Rattle.hb_grpc.proofs.Steps.{framing, given}

-- bytes stay bytes

pub octets_append : (xs ys : List ℕ) → AreOctets xs → AreOctets ys → AreOctets (xs ++ ys)
octets_append xs ys p q i = ⊎_elim
    (λ (h : i < length xs). rw get_or_append_left (p i))
    (λ (h : length xs ≤ i). rw (get_or-append_right xs ys (length xs) i 0 refl h) (q (i - length xs)))
    (cases_lt i (length xs))

pub octets_take : (n : ℕ) (xs : List ℕ) → AreOctets xs → AreOctets (take n xs)
octets_take n xs p i = ⊎_elim
    (λ (h : i < n). rw (get_or-take n xs i 0 h) (p i))
    (λ (h : n ≤ i).
    let short : length (take n xs) ≤ i = omega (arith, length-take n xs) in rw (get_or_past (take n xs) i 0 short) (omega arith))
    (cases_lt i n)

pub octets_drop : (n : ℕ) (xs : List ℕ) → AreOctets xs → AreOctets (drop n xs)
octets_drop n xs p i = rw (get_or-drop n xs i 0) (p (n + i))

-- what is read spells the message
pub read_is_spelled : (limit size : ℕ) (bytes : List ℕ) → AreOctets bytes → announced limit bytes ≡ Ok (Some size)
    → 5 + size ≤ length bytes → take (5 + size) bytes ≡ spelling (take size (drop 5 bytes))
read_is_spelled limit size [] octets e whole = absurd (omega (arith, whole))
read_is_spelled limit size (a ∷ []) octets e whole = absurd (omega (arith, whole))
read_is_spelled limit size (a ∷ b ∷ []) octets e whole = absurd (omega (arith, whole))
read_is_spelled limit size (a ∷ b ∷ c ∷ []) octets e whole = absurd (omega (arith, whole))
read_is_spelled limit size (a ∷ b ∷ c ∷ d ∷ []) octets e whole = absurd (omega (arith, whole))
read_is_spelled limit size (z ∷ a ∷ b ∷ c ∷ d ∷ rest) octets e whole =
    let t = sized limit size (z ∷ a ∷ b ∷ c ∷ d ∷ rest) e in
    let plain = t.plain in
    let flag : z ≡ 0 = grind (arith, nat_tests, plain) in
    let few : size ≤ length rest = omega (arith, whole) in
    let len : length (take size rest) ≡ size = omega (arith, few, length-take size rest) in
    let small = octets_take 4 (a ∷ b ∷ c ∷ d ∷ rest) (octets_drop 1 (z ∷ a ∷ b ∷ c ∷ d ∷ rest) octets) in
    let n_is : length (take size rest) ≡ from_be_bytes w32 (a ∷ b ∷ c ∷ d ∷ []) = len ∙ sym t.size_is in
    let digits : to_be_bytes w32 (length (take size rest)) ≡ a ∷ b ∷ c ∷ d ∷ [] =
    be_bytes_4 (a ∷ b ∷ c ∷ d ∷ []) (length (take size rest)) refl small n_is in
    take-append-add (z ∷ a ∷ b ∷ c ∷ d ∷ []) rest size
    ∙ sym (ap₂ (λ (x : ℕ) (xs : List ℕ). x ∷ (xs ++ take size rest)) (sym flag) digits)

-- what spells a message is read
pub spelled_is_told : (limit : ℕ) (m more : List ℕ) → limit < 2 ^ 32 → length m ≤ limit
    → announced limit (spelling m ++ more) ≡ Ok (Some (length m))
spelled_is_told limit m more small fits =
    let size : size_at (spelling m ++ more) ≡ length m = from_be_bytes-to_be_bytes_4 (length m) (omega (arith, small, fits)) in
    let some : (length (spelling m ++ more) == 0) ≡ false = grind (arith, nat_tests) in
    let enough : nat_lt (length (spelling m ++ more)) 5 ≡ false = grind (arith, nat_tests) in
    let within : nat_lt limit (length m) ≡ false = grind (arith, nat_tests) in
    rw (some, enough, size, within) refl

pub spelled_is_first : (limit : ℕ) (m more : List ℕ) → limit < 2 ^ 32 → length m ≤ limit
    → first_of limit (spelling m ++ more) ≡ Ok (Some (length m))
spelled_is_first limit m more small fits =
    let all : length (spelling m ++ more) ≡ 5 + length m + length more = omega (arith, length-append m more) in
    let whole : nat_lt (length (spelling m ++ more)) (5 + length m) ≡ false = grind (arith, nat_tests, all) in
    ap (whole_of (spelling m ++ more)) (spelled_is_told limit m more small fits) ∙ rw whole refl

pub sent_is_read : SentIsRead
sent_is_read limit m more small fits =
    let bytes = spelling m ++ more in
    let first = spelled_is_first limit m more small fits in
    let message : take (length m) (m ++ more) ≡ m = take-append_seam m more in
    let len : 5 + length m - 0 ≡ length (spelling m) = omega arith in (
      ap (answer_of [] bytes) first ∙ ap₂ (λ n xs. Ok (given n (Some xs))) len message,
      ap (λ x. framing limit (held_of bytes x)) first,
    )
