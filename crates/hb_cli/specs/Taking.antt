-- What taking the message in front of bytes says of its result.
use Rattle.std.specs.Prelude.{◌≡◌, ℕ, Result, Ok, Err}
use Rattle.hb_base.specs.declared.or.Or.{Or}
use Rattle.hb_base.specs.declared.or.Or.TheVariants.{Fault, NoMemory}
use Rattle.hb_base.specs.Outcome.{Fails}
use Rattle.hb_cli.specs.declared.input.InputWhy.{InputWhy}
use Rattle.hb_cli.specs.declared.input.Refused.{Refused}
use Rattle.hb_cli.specs.declared.input.Refused.TheVariants.{Message}
use Rattle.hb_cli.specs.Input.{Leaves}

-- how many bytes were taken and what is left are as stated, want of memory aside
abbrev pub TakesFront : Result (ℕ × Leaves) InputWhy → Leaves → Result ℕ (Or InputWhy) → Type 0
TakesFront stated new (Ok taken) = stated ≡ Ok (taken, new)
TakesFront stated new (Err why) = Fails stated why

-- the message of this number is refused
abbrev pub numbered : ℕ → Or InputWhy → Or Refused
numbered k (Fault why) = Fault (Message k why)
numbered k NoMemory = NoMemory
