-- What one put into a sink of bytes does.
use Rattle.std.specs.Prelude.{ℕ, ◌<◌, ◌≤◌, Bool, true, false, List, length, take, Option, Result, Ok, Err}
use Rattle.std.specs.Io.KnownBytes.{Appends, Keeps}
use Rattle.hb_base.specs.declared.sink.Put.{Put}
use Rattle.hb_base.specs.declared.sink.Put.TheVariants.{Took, Failed}

-- the bytes written before and after, the buffer and the answer: bytes at the buffer's front are
-- written at the end, or the put failed and all stays
abbrev pub Puts : Option (List ℕ) → Option (List ℕ) → List ℕ → Put → Type 0
Puts before after from (Took n) = (0 < n) × (n ≤ length from) × Appends before after (take n from)
Puts before after from Failed = Keeps before after

-- whether the put failed
abbrev pub put_failed : Put → Bool
put_failed (Took n) = false
put_failed Failed = true

-- all of the bytes are written, or at an error a part of them, from the front
abbrev pub WritesAll : {E : Type 0} → Option (List ℕ) → Option (List ℕ) → List ℕ → Result Unit E → Type 0
WritesAll before after bytes (Ok done) = Appends before after bytes
WritesAll before after bytes (Err e) = (n : ℕ) × (n < length bytes) × Appends before after (take n bytes)
