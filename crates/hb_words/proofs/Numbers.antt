-- Decimal digits as `parse` reads them.
use Rattle.std.proofs.Common.{◌≡◌, ℕ, ◌<◌, ◌≤◌, ◌^◌, ◌*◌, ◌+◌, Bool, true, false, not, List, length, fold, Some, None, Result, Ok, Err}
use Rattle.std.proofs.Common.{nat_le, refl, arith}
use Rattle.std.specs.Str.Parse.{ParsesUnsigned}
use Rattle.std.specs.List.{list_all}
use Rattle.std.specs.Result.{OkIff}
use Rattle.std.proofs.lemmas.Bool.{and_parts}
use Rattle.std.proofs.lemmas.Bool.Decides.{nat_tests}
use Rattle.std.proofs.lemmas.Str.Parse.{IsDigitsTest, IsNumeralModel, numerals_by_fold, parse_digits}
use Rattle.hb_base.specs.Decimal.{is_digit, digit, decimal_value}
use Rattle.hb_words.specs.Number.{leads_with_zero, is_plain, number_of}

abbrev IsDigits : List ℕ → Type 0
IsDigits text = list_all is_digit text ≡ true

tells_digits : IsDigitsTest IsDigits
tells_digits = record {
  empty = refl;
  parts = λ c cs e. grind (arith, nat_tests);
  more = λ c cs range e. grind (arith, nat_tests);
}

model : IsNumeralModel IsDigits decimal_value
model = numerals_by_fold IsDigits tells_digits (λ n digits. fold (λ m b. m * 10 + digit b) n digits)
    (record { empty = λ n. refl; more = λ n c cs range. refl })

-- what `parse` says of digits
abbrev Read : {E : Type 0} → List ℕ → Result ℕ E → Type 0
Read text r = OkIff r ((0 < length text) × (decimal_value text < 2 ^ 64)) (decimal_value text)

pub digits_read : {E : Type 0} (text : List ℕ) (r : Result ℕ E) → ParsesUnsigned 64 10 text r → list_all is_digit text ≡ true → Read text r
digits_read text r parsed digits = parse_digits model 64 text r parsed digits

-- a plain text has digits alone
pub plain_digits : (text : List ℕ) → is_plain text ≡ true → list_all is_digit text ≡ true
plain_digits text plain = (and_parts (list_all is_digit text) (not (leads_with_zero text)) plain).0

module _ (least most : ℕ) (text : List ℕ) where
  pub not_plain : is_plain text ≡ false → number_of least most text ≡ None
  unfolding number_of
  not_plain plain = rw plain (grind (arith, nat_tests))

  pub number_read : {E : Type 0} (r : Result ℕ E) (n : ℕ) → Read text r → r ≡ Ok n → is_plain text ≡ true → least ≤ n → n ≤ most
      → number_of least most text ≡ Some n
  unfolding number_of
  number_read (Ok m) n read is plain low high = rw plain (grind (arith, nat_tests))
  number_read (Err e) n read is plain low high = cc

  pub number_low : {E : Type 0} (r : Result ℕ E) (n : ℕ) → Read text r → r ≡ Ok n → n < least → number_of least most text ≡ None
  unfolding number_of
  number_low (Ok m) n read is low = grind (arith, nat_tests)
  number_low (Err e) n read is low = cc

  pub number_high : {E : Type 0} (r : Result ℕ E) (n : ℕ) → Read text r → r ≡ Ok n → most < n → number_of least most text ≡ None
  unfolding number_of
  number_high (Ok m) n read is high = grind (arith, nat_tests)
  number_high (Err e) n read is high = cc

  by_tests : (some inside : Bool) → nat_le 1 (length text) ≡ some → nat_le (decimal_value text) most ≡ inside
      → ((0 < length text) × (decimal_value text < 2 ^ 64) → ⊥) → most < 2 ^ 64 → number_of least most text ≡ None
  unfolding number_of
  by_tests true true some inside read fits =
      let first : 0 < length text = grind (arith, nat_tests) in
      let last : decimal_value text ≤ most = grind (arith, nat_tests) in
      absurd (read (first, omega (arith, last, fits)))
  by_tests true false some inside read fits = grind (arith, nat_tests)
  by_tests false inside some at read fits = grind (arith, nat_tests)

  pub number_none : {E : Type 0} (r : Result ℕ E) (e : E) → Read text r → r ≡ Err e → most < 2 ^ 64 → number_of least most text ≡ None
  number_none (Ok n) e read is fits = cc
  number_none (Err f) e read is fits = by_tests (nat_le 1 (length text)) (nat_le (decimal_value text) most) refl refl read fits
