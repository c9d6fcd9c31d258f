-- The decimal text of a number.
use Rattle.std.proofs.Common.{◌≡◌, ℕ, ◌<◌, ◌^◌, length, false, nat_eq, arith, decimal, get_or}
use Rattle.std.specs.Int.{IsInRange}
use Rattle.std.proofs.lemmas.Bool.Decides.{nat_tests}
use Rattle.std.proofs.lemmas.Fmt.{digits_decimal}
use Rattle.std.proofs.lemmas.List.Elements.{All-from_get_or}
use Rattle.std.proofs.lemmas.Str.Parse.{numerals_by_value, tells_by_index}
use Rattle.hb_base.proofs.PartsLemmas.{Lacks}

-- a decimal text has digits alone
byte_in_range : (n : ℕ) → n < 2 ^ 64 → (i : ℕ) → i < length (decimal n) → IsInRange 48 57 (get_or (decimal n) i 0)
byte_in_range n small i below = digits_decimal (numerals_by_value _ tells_by_index) n small i below

pub no_higher_byte : (c n : ℕ) → 57 < c → n < 2 ^ 64 → Lacks c (decimal n)
no_higher_byte c n high small =
    All-from_get_or (λ b. nat_eq b c ≡ false) (decimal n) 0
    (λ i below. let range = byte_in_range n small i below in grind (arith, nat_tests, range.1))
