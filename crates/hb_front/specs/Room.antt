-- How many bytes a header may have.
use Rattle.std.specs.Prelude.{ℕ}

-- the most: 16, and the 4,096 that its length may say
abbrev pub longest_front : ℕ
longest_front = 4112
