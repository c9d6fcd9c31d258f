-- Octets are those of the number that they make.
use Rattle.std.proofs.Common.{◌≡◌, ℕ, zero, suc, ◌+◌, ◌*◌, ◌/◌, ◌^◌, ◌<◌, List, [], ◌∷◌, length, refl, sym, ap, ◌∙◌, arith}
use Rattle.std.specs.Int.{w32, w128, byte_at, bytes_high_first, to_be_bytes, from_be_bytes}
use Rattle.std.specs.Prelude.{slice_index}
use Rattle.std.specs.List.{All}
use Rattle.std.proofs.Math.Nat.{div-div-eq-div-mul, pow-suc}
use Rattle.std.proofs.lemmas.List.Elements.{All-head, All-tail}
use Rattle.hb_wire.specs.Spelling.{IsOctet}

-- a number, and the octets behind it
abbrev number_with : ℕ → List ℕ → ℕ
number_with a [] = a
number_with a (b ∷ bs) = number_with (a * 256 + b) bs

byte_is : (k n a b : ℕ) → n / 256 ^ k ≡ a * 256 + b → b < 256 → byte_at k n ≡ b
byte_is zero n a b is small = omega arith
byte_is (suc k) n a b is small = rw is (omega arith)

in_front : (k n a b : ℕ) → n / 256 ^ k ≡ a * 256 + b → b < 256 → n / 256 ^ suc k ≡ a
in_front k n a b is small =
    ap (λ (m : ℕ). n / m) (pow-suc 256 k) ∙ sym (div-div-eq-div-mul n (256 ^ k) 256) ∙ rw is (omega arith)

-- the last octets of a number, and what is in front of them
octets_back : (bs : List ℕ) (a n : ℕ) → All IsOctet bs → n ≡ number_with a bs
    → (bytes_high_first (length bs) n ≡ bs) × (n / 256 ^ length bs ≡ a)
octets_back [] a n all is = (refl, omega arith)
octets_back (b ∷ bs) a n all is =
    let small = All-head IsOctet b bs all in
    let (rest, front) = octets_back bs (a * 256 + b) n (All-tail IsOctet b bs all) is in
    (rw (byte_is (length bs) n a b front small, rest) refl, in_front (length bs) n a b front small)

sixteen : (bs : List ℕ) → length bs ≡ 16 → from_be_bytes w128 bs ≡ number_with 0 bs
sixteen [] size = absurd (omega arith)
sixteen (b0 ∷ []) size = absurd (omega arith)
sixteen (b0 ∷ b1 ∷ []) size = absurd (omega arith)
sixteen (b0 ∷ b1 ∷ b2 ∷ []) size = absurd (omega arith)
sixteen (b0 ∷ b1 ∷ b2 ∷ b3 ∷ []) size = absurd (omega arith)
sixteen (b0 ∷ b1 ∷ b2 ∷ b3 ∷ b4 ∷ []) size = absurd (omega arith)
sixteen (b0 ∷ b1 ∷ b2 ∷ b3 ∷ b4 ∷ b5 ∷ []) size = absurd (omega arith)
sixteen (b0 ∷ b1 ∷ b2 ∷ b3 ∷ b4 ∷ b5 ∷ b6 ∷ []) size = absurd (omega arith)
sixteen (b0 ∷ b1 ∷ b2 ∷ b3 ∷ b4 ∷ b5 ∷ b6 ∷ b7 ∷ []) size = absurd (omega arith)
sixteen (b0 ∷ b1 ∷ b2 ∷ b3 ∷ b4 ∷ b5 ∷ b6 ∷ b7 ∷ b8 ∷ []) size = absurd (omega arith)
sixteen (b0 ∷ b1 ∷ b2 ∷ b3 ∷ b4 ∷ b5 ∷ b6 ∷ b7 ∷ b8 ∷ b9 ∷ []) size = absurd (omega arith)
sixteen (b0 ∷ b1 ∷ b2 ∷ b3 ∷ b4 ∷ b5 ∷ b6 ∷ b7 ∷ b8 ∷ b9 ∷ b10 ∷ []) size = absurd (omega arith)
sixteen (b0 ∷ b1 ∷ b2 ∷ b3 ∷ b4 ∷ b5 ∷ b6 ∷ b7 ∷ b8 ∷ b9 ∷ b10 ∷ b11 ∷ []) size = absurd (omega arith)
sixteen (b0 ∷ b1 ∷ b2 ∷ b3 ∷ b4 ∷ b5 ∷ b6 ∷ b7 ∷ b8 ∷ b9 ∷ b10 ∷ b11 ∷ b12 ∷ []) size = absurd (omega arith)
sixteen (b0 ∷ b1 ∷ b2 ∷ b3 ∷ b4 ∷ b5 ∷ b6 ∷ b7 ∷ b8 ∷ b9 ∷ b10 ∷ b11 ∷ b12 ∷ b13 ∷ []) size = absurd (omega arith)
sixteen (b0 ∷ b1 ∷ b2 ∷ b3 ∷ b4 ∷ b5 ∷ b6 ∷ b7 ∷ b8 ∷ b9 ∷ b10 ∷ b11 ∷ b12 ∷ b13 ∷ b14 ∷ []) size = absurd (omega arith)
sixteen (b0 ∷ b1 ∷ b2 ∷ b3 ∷ b4 ∷ b5 ∷ b6 ∷ b7 ∷ b8 ∷ b9 ∷ b10 ∷ b11 ∷ b12 ∷ b13 ∷ b14 ∷ b15 ∷ []) size = omega arith
sixteen (b0 ∷ b1 ∷ b2 ∷ b3 ∷ b4 ∷ b5 ∷ b6 ∷ b7 ∷ b8 ∷ b9 ∷ b10 ∷ b11 ∷ b12 ∷ b13 ∷ b14 ∷ b15 ∷ more ∷ bs) size = absurd (omega arith)

pub octets_16 : (bs : List ℕ) → length bs ≡ 16 → All IsOctet bs → to_be_bytes w128 (from_be_bytes w128 bs) ≡ bs
octets_16 bs size all =
    ap (λ (k : ℕ). bytes_high_first k (from_be_bytes w128 bs)) (sym size) ∙
    (octets_back bs 0 (from_be_bytes w128 bs) all (sixteen bs size)).0

octet_at : (bs : List ℕ) (i : ℕ) → All IsOctet bs → slice_index bs i < 256
octet_at [] i all = omega arith
octet_at (b ∷ bs) zero all = All-head IsOctet b bs all
octet_at (b ∷ bs) (suc i) all = octet_at bs i (All-tail IsOctet b bs all)

pub number_16 : (bs : List ℕ) → All IsOctet bs → from_be_bytes w128 bs < 2 ^ 128
number_16 bs all =
    let at = λ (i : ℕ). octet_at bs i all in
    omega (arith, at 0, at 1, at 2, at 3, at 4, at 5, at 6, at 7, at 8, at 9, at 10, at 11, at 12, at 13, at 14, at 15)

pub number_4 : (bs : List ℕ) → All IsOctet bs → from_be_bytes w32 bs < 2 ^ 32
number_4 bs all = let at = λ (i : ℕ). octet_at bs i all in omega (arith, at 0, at 1, at 2, at 3)
