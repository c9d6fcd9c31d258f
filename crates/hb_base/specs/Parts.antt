-- A text cut at a separator.
use Rattle.std.specs.Prelude.{ℕ, ◌==◌, not, nat_lt, if◌then◌else◌, List, length, Option, Some, None}
use Rattle.std.specs.Borrow.{Bor}
use Rattle.std.specs.List.{slice_split, position_or_len, suffix_len, before_first, after_first, before_last, after_last}

-- the parts of a text between its separators
abbrev pub parts : ℕ → List ℕ → List (List ℕ)
parts separator text = slice_split (λ b. b == separator) text

-- what stands before and after the first separator
abbrev pub cut_first : ℕ → List ℕ → Option (List ℕ × List ℕ)
cut_first separator text =
    if nat_lt (position_or_len (λ b. b == separator) text) (length text)
    then Some (before_first (λ b. b == separator) text, after_first (λ b. b == separator) text) else None

-- what stands before and after the last separator
abbrev pub cut_last : ℕ → List ℕ → Option (List ℕ × List ℕ)
cut_last separator text =
    if nat_lt (suffix_len (λ b. not (b == separator)) text) (length text)
    then Some (before_last (λ b. b == separator) text, after_last (λ b. b == separator) text) else None

-- the two slices of a cut, as lists
abbrev pub cut_lists : Option (Bor (List ℕ) × Bor (List ℕ)) → Option (List ℕ × List ℕ)
cut_lists None = None
cut_lists (Some cut) = Some (cut.0.now, cut.1.now)
