-- Decimal digits.
use Rattle.std.specs.Prelude.{ℕ, ◌+◌, ◌-◌, ◌*◌, Bool, ◌&&◌, nat_le, List, fold}

-- this byte is a decimal digit, 0 to 9
abbrev pub is_digit : ℕ → Bool
is_digit b = nat_le 48 b && nat_le b 57

-- the number that a digit stands for
abbrev pub digit : ℕ → ℕ
digit b = b - 48

-- the number that digits spell, most significant first
abbrev pub decimal_value : List ℕ → ℕ
decimal_value digits = fold (λ n b. n * 10 + digit b) 0 digits
