use Rattle.std.proofs.Common.{◌≡◌, take}
use Rattle.std.specs.Prelude.{map}
use Rattle.hb_held.specs.Numbers.{number_of}
use Rattle.hb_held.proofs.numbers.numbers_of_ips.Given as goal

-- the numbers so far
abbrev pub invariant-loop-ip : goal.invariant-loop-ip
invariant-loop-ip l = l.numbers ≡ map number_of (take l.ip-index l.ips)
