-- One word.
use Rattle.std.specs.Prelude.{ℕ, Bool, ◌==◌, nat_eq, not, ◌&&◌, List, length, codes}
use Rattle.std.specs.List.{starts_with}

-- a word that begins as an option does
abbrev pub is_dashed : List ℕ → Bool
is_dashed word = starts_with nat_eq word (codes "-")

-- a word that may be a value: it isn't empty and doesn't begin as an option does
abbrev pub is_value : List ℕ → Bool
is_value word = not (length word == 0) && not (is_dashed word)
