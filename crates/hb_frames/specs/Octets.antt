use Rattle.std.specs.Prelude.{ℕ, ◌+◌, ◌*◌, ◌/◌, ◌%◌, List, [], ◌∷◌, slice_index}

-- a number in three octets, the most significant first
abbrev pub three : ℕ → List ℕ
three n = n / 65536 ∷ n / 256 % 256 ∷ n % 256 ∷ []

-- a number in four octets, the most significant first
abbrev pub four : ℕ → List ℕ
four n = n / 16777216 ∷ n / 65536 % 256 ∷ n / 256 % 256 ∷ n % 256 ∷ []

-- the number that three octets from place i on spell
abbrev pub three_at : List ℕ → ℕ → ℕ
three_at bytes i = slice_index bytes i * 65536 + slice_index bytes (i + 1) * 256 + slice_index bytes (i + 2)

-- the number that four octets from place i on spell
abbrev pub four_at : List ℕ → ℕ → ℕ
four_at bytes i =
    slice_index bytes i * 16777216 + slice_index bytes (i + 1) * 65536
    + slice_index bytes (i + 2) * 256 + slice_index bytes (i + 3)
