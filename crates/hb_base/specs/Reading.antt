-- What a whole read answers.
use Rattle.std.specs.Prelude.{Bool, true, false, Result, Ok, Err}
use Rattle.hb_base.specs.declared.reading.ReadStop.{ReadStop}
use Rattle.hb_base.specs.declared.reading.ReadStop.TheVariants.{TooLong, Failed, NoMemory}

-- whether it ended at a take that failed
abbrev pub read_failed : {A : Type 0} → Result A ReadStop → Bool
read_failed (Ok bytes) = false
read_failed (Err TooLong) = false
read_failed (Err Failed) = true
read_failed (Err NoMemory) = false
