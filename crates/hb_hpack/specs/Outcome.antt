-- What reading gives: a value, or the first fault and how many bytes are left from its place on.
use Rattle.std.specs.Prelude.{◌≡◌, ℕ, Result, Ok, Err}
use Rattle.hb_base.specs.declared.or.Or.{Or}
use Rattle.hb_base.specs.declared.or.Or.TheVariants as or
use Rattle.hb_hpack.specs.declared.fault.Stop.{Stop}
use Rattle.hb_hpack.specs.declared.fault.HpackWhy.{HpackWhy}

abbrev pub stop : ℕ → HpackWhy → Stop
stop left why = record { left = left; why = why }

-- a step, and the next one from what it gave
infixl 10 ◌>>=◌
abbrev pub ◌>>=◌ : {A B : Type 0} → Result A Stop → (A → Result B Stop) → Result B Stop
(Ok x) >>= f = f x
(Err e) >>= f = Err e

-- the answer, seen by view, is what reading gives
abbrev pub Gives : {X Y : Type 0} → (X → Y) → Result X Stop → Result Y Stop → Type 0
Gives view (Ok x) read = read ≡ Ok (view x)
Gives view (Err e) read = read ≡ Err e

-- the same, want of memory aside
abbrev pub GivesOr : {X Y : Type 0} → (X → Y) → Result X (Or Stop) → Result Y Stop → Type 0
GivesOr view (Ok x) read = read ≡ Ok (view x)
GivesOr view (Err (or.Fault e)) read = read ≡ Err e
GivesOr view (Err or.NoMemory) read = Unit {0}
