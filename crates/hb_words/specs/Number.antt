-- Numbers of the command line.
use Rattle.std.specs.Prelude.{ℕ, ◌&&◌, ◌==◌, Bool, false, not, nat_le, if◌then◌else◌, List, [], ◌∷◌, length, Option, Some, None}
use Rattle.std.specs.List.{list_all}
use Rattle.hb_base.specs.Decimal.{is_digit, decimal_value}

-- a zero stands in front of more
abbrev pub leads_with_zero : List ℕ → Bool
leads_with_zero [] = false
leads_with_zero (d ∷ []) = false
leads_with_zero (d ∷ e ∷ ds) = d == 48

-- its characters are decimal digits, and none of them a leading zero
abbrev pub is_plain : List ℕ → Bool
is_plain text = list_all is_digit text && not (leads_with_zero text)

-- the number that a text spells: one decimal digit or more and nothing else, without a leading zero, of a value from the least to the most
unfoldable pub number_of : ℕ → ℕ → List ℕ → Option ℕ
number_of least most text =
    if nat_le 1 (length text) && is_plain text && nat_le least (decimal_value text) && nat_le (decimal_value text) most
    then Some (decimal_value text) else None
