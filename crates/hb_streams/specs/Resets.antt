use Rattle.std.specs.Prelude.{ℕ, Bool, ◌==◌, List, [], ◌∷◌, ◌++◌}
use Rattle.std.specs.List.{list_any}
use Rattle.circular_buffer.specs.Buffer.{keep_last}
use Rattle.hb_streams.specs.Numbers.{most_resets}

-- the streams that this end reset, of which the last 128 are kept, and one more
abbrev pub with_reset : List ℕ → ℕ → List ℕ
with_reset resets n = keep_last most_resets (resets ++ n ∷ [])

-- the stream n is one of them
abbrev pub is_among : List ℕ → ℕ → Bool
is_among resets n = list_any (λ m. m == n) resets
