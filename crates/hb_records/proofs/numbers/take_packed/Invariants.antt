use Rattle.std.proofs.Common.{◌≡◌, length}
use Rattle.hb_records.specs.Numbers.{packed_in}
use Rattle.hb_records.proofs.numbers.take_packed.Given as goal

-- what the numbers that are left make of the list is what all of them make
abbrev pub invariant-loop-n : goal.invariant-loop-n
invariant-loop-n l = packed_in l.field l.numbers l.packed ≡ packed_in l.field l.initial.numbers l.initial.packed

abbrev pub decreases-loop-n : goal.decreases-loop-n
decreases-loop-n l = length l.packed.left
