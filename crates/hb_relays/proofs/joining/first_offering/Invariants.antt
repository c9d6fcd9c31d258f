use Rattle.hb_gateway.specs.Keys.{key_as}
use Rattle.hb_relays.proofs.Offering.{NoneBefore, numbers_left}
use Rattle.hb_relays.proofs.joining.first_offering.Given as goal

-- in front of the number none is for the key and has room
abbrev pub invariant-loop-from : goal.invariant-loop-from
invariant-loop-from l = NoneBefore l.gates (key_as l.key) l.from

abbrev pub decreases-loop-from : goal.decreases-loop-from
decreases-loop-from l = numbers_left l.from
