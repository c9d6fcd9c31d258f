-- What one take from a source of bytes does.
use Rattle.std.specs.Prelude.{ℕ, ◌<◌, ◌≤◌, Bool, true, false, List, length, take, Option}
use Rattle.std.specs.Io.KnownBytes.{Consumes, IsAtEnd, Keeps}
use Rattle.hb_base.specs.declared.source.Taken.{Taken}
use Rattle.hb_base.specs.declared.source.Taken.TheVariants.{Got, End, Failed}

-- the bytes left before and after, the buffer after, and the answer: the next bytes stand at the
-- buffer's front and are no longer left, or none is left, or the take failed and all stays
abbrev pub Takes : Option (List ℕ) → Option (List ℕ) → List ℕ → Taken → Type 0
Takes before after into (Got n) = (0 < n) × (n ≤ length into) × Consumes before after (take n into)
Takes before after into End = IsAtEnd before × Keeps before after
Takes before after into Failed = Keeps before after

-- whether the take failed
abbrev pub take_failed : Taken → Bool
take_failed (Got n) = false
take_failed End = false
take_failed Failed = true
