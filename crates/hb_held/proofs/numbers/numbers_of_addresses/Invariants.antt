use Rattle.std.proofs.Common.{◌≡◌, take}
use Rattle.std.specs.Prelude.{map}
use Rattle.hb_held.specs.Numbers.{number_of}
use Rattle.hb_held.proofs.numbers.numbers_of_addresses.Given as goal

-- the numbers so far
abbrev pub invariant-loop-address : goal.invariant-loop-address
invariant-loop-address l = l.numbers ≡ map (λ a. number_of a.address) (take l.address-index l.addresses)
