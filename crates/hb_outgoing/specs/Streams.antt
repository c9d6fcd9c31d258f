use Rattle.std.specs.Prelude.{ℕ, List, [], Bool, not, nat_lt, ◌==◌, ◌||◌}
use Rattle.std.specs.List.{list_any}

-- how many streams are kept
abbrev pub most_streams : ℕ
most_streams = 128

-- streams: the last ones that were put, and one above which there is no other
pub record Streams : Type 0 where
  pub last : List ℕ
  pub before : ℕ

abbrev pub no_streams : Streams
no_streams = record { last = []; before = 0 }

-- the stream n may be one of them
abbrev pub may_be : Streams → ℕ → Bool
may_be s n = not (nat_lt s.before n) || list_any (λ m. m == n) s.last
