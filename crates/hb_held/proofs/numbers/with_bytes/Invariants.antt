use Rattle.std.proofs.Common.{◌≡◌, take}
use Rattle.hb_held.specs.Numbers.{with_bytes}
use Rattle.hb_held.proofs.numbers.with_bytes.Given as goal

-- the number of the bytes so far
abbrev pub invariant-loop-byte : goal.invariant-loop-byte
invariant-loop-byte l = l.sum ≡ with_bytes l.number (take l.byte-index l.text)
