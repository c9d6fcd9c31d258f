-- Bytes that begin others.
use Rattle.std.specs.Prelude.{◌≡◌, ℕ, List, ◌++◌}

-- the bytes stand in front of the others, which have more behind them or none
abbrev pub IsFrontOf : List ℕ → List ℕ → Type 0
IsFrontOf old new = (more : List ℕ) × (new ≡ old ++ more)
