-- What a call that may want memory answers.
use Rattle.std.specs.Prelude.{◌≡◌, Result, Ok, Err}
use Rattle.hb_base.specs.declared.or.Or.{Or}
use Rattle.hb_base.specs.declared.or.Or.TheVariants.{Fault, NoMemory}

-- Why a call gave up is the stated fault, want of memory aside.
abbrev pub Fails : {X E : Type 0} → Result X E → Or E → Type 0
Fails stated (Fault e) = stated ≡ Err e
Fails stated NoMemory = Unit {0}

-- The answer is the stated one, value or fault, want of memory aside.
abbrev pub Answers : {X E : Type 0} → Result X (Or E) → Result X E → Type 0
Answers (Ok x) stated = stated ≡ Ok x
Answers (Err why) stated = Fails stated why

-- A call made of a value what is stated, or gave up for the stated fault.
abbrev pub Merges : {S A E : Type 0} → Result S E → S → Result A (Or E) → Type 0
Merges stated new (Ok a) = stated ≡ Ok new
Merges stated new (Err why) = Fails stated why
