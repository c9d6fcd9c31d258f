use Rattle.std.proofs.Common.{◌≡◌, ◌++◌, take}
use Rattle.std.specs.Prelude.{map}
use Rattle.hb_held.specs.Numbers.{service_number}
use Rattle.hb_held.proofs.numbers.add_services.Given as goal

-- the numbers so far
abbrev pub invariant-loop-service : goal.invariant-loop-service
invariant-loop-service l = l.numbers ≡ l.fn.numbers ++ map service_number (take l.service-index l.services)
