-- Decimal and hex digits and the words of a line are printable ASCII.
use Rattle.std.proofs.Common.{◌≡◌, ◌≢◌, ℕ, ◌+◌, ◌/◌, ◌%◌, ◌<◌, ◌≤◌, ◌^◌, ◌==◌, Bool, true, false, ◌&&◌, suc, List, [], ◌∷◌, get_or, decimal, refl, ap, arith}
use Rattle.std.specs.Prelude.{nat_le, nat_lt, not}
use Rattle.std.specs.List.{All, list_all}
use Rattle.std.proofs.lemmas.Bool.{and_parts}
use Rattle.std.proofs.lemmas.Bool.Decides.{nat_tests}
use Rattle.std.proofs.lemmas.Fmt.{decimal_by_steps}
use Rattle.std.proofs.lemmas.List.Elements.{All-nil, All-cons, All-head, All-tail, All-append, All-get_or}
use Rattle.hex.specs.Hex.{lower_digits, encode_with, encode_lower, IsBytes}
use Rattle.json.specs.Print.{escape}
use Rattle.json.proofs.Printed.Strings.{escape_byte_plain}

-- printable
pub record IsPlain (b : ℕ) : Type 0 where
  pub low : 32 ≤ b
  pub high : b < 128

abbrev pub is_plain : ℕ → Bool
is_plain b = nat_le 32 b && nat_lt b 128

plain_test : (b : ℕ) → is_plain b ≡ true → IsPlain b
plain_test b e =
    let p = and_parts (nat_le 32 b) (nat_lt b 128) e in
    record { low = grind (arith, nat_tests, p.0); high = grind (arith, nat_tests, p.1) }

-- a literal
pub plain_text : (xs : List ℕ) → list_all is_plain xs ≡ true → All IsPlain xs
plain_text [] e = All-nil IsPlain
plain_text (x ∷ xs) e = let p = and_parts _ _ e in All-cons IsPlain x xs (plain_test x p.0) (plain_text xs p.1)

plain_digit : (n : ℕ) → n < 10 → IsPlain (48 + n)
plain_digit n h = record { low = omega arith; high = omega arith }

pub plain_decimal : (n : ℕ) → n < 2 ^ 64 → All IsPlain (decimal n)
plain_decimal n h = decimal_by_steps (λ k ds. All IsPlain ds)
    (λ k small. All-cons IsPlain (48 + k) [] (plain_digit k small) (All-nil IsPlain))
    (λ k ds large here. All-append IsPlain ds ((48 + k % 10) ∷ []) here
    (All-cons IsPlain (48 + k % 10) [] (plain_digit (k % 10) (omega arith)) (All-nil IsPlain)))
    n h

-- no hex digit is a quote or a backslash
pub record IsLetter (b : ℕ) : Type 0 where
  pub low : 48 ≤ b
  pub high : b < 128
  pub other : b ≢ 92

abbrev is_letter : ℕ → Bool
is_letter b = nat_le 48 b && (nat_lt b 128 && not (b == 92))

other_than : (b k : ℕ) (test : Bool) → (b == k) ≡ test → not test ≡ true → b ≢ k
other_than b k true is e = absurd cc
other_than b k false is e = grind (arith, nat_tests)

letter_test : (b : ℕ) → is_letter b ≡ true → IsLetter b
letter_test b e =
    let p = and_parts (nat_le 48 b) (nat_lt b 128 && not (b == 92)) e in let q = and_parts (nat_lt b 128) (not (b == 92)) p.1 in
    record { low = grind (arith, nat_tests, p.0); high = grind (arith, nat_tests, q.0); other = other_than b 92 (b == 92) refl q.1 }

letters : (xs : List ℕ) → list_all is_letter xs ≡ true → All IsLetter xs
letters [] e = All-nil IsLetter
letters (x ∷ xs) e = let p = and_parts _ _ e in All-cons IsLetter x xs (letter_test x p.0) (letters xs p.1)

letter_at : (k : ℕ) → k < 16 → IsLetter (get_or lower_digits k 0)
letter_at k h = All-get_or IsLetter lower_digits k 0 h (letters lower_digits refl)

pub letters_hex : (bytes : List ℕ) → IsBytes bytes → All IsLetter (encode_lower bytes)
unfolding encode_with
letters_hex [] h = All-nil IsLetter
letters_hex (b ∷ rest) h =
    let small : b < 256 = h 0 in
    All-cons IsLetter (get_or lower_digits (b / 16) 0) (get_or lower_digits (b % 16) 0 ∷ encode_lower rest)
    (letter_at (b / 16) (omega arith))
    (All-cons IsLetter (get_or lower_digits (b % 16) 0) (encode_lower rest) (letter_at (b % 16) (omega arith))
    (letters_hex rest (λ i. h (suc i))))

pub plain_letter : (b : ℕ) → IsLetter b → IsPlain b
plain_letter b h = record { low = omega (arith, h.low); high = h.high }

-- JSON writes hex digits as they are
pub escape_letters : (xs : List ℕ) → All IsLetter xs → escape xs ≡ xs
escape_letters [] h = refl
escape_letters (x ∷ xs) h =
    let here = All-head IsLetter x xs h in
    rw (escape_byte_plain x (λ e. omega (arith, here.low)) here.other (omega (arith, here.low)))
    (ap (λ (ys : List ℕ). x ∷ ys) (escape_letters xs (All-tail IsLetter x xs h)))
