use Rattle.hb_relays.specs.Stirring.{Stirs}
use Rattle.hb_relays.proofs.EndingGates.{GatesEnding}
use Rattle.hb_relays.proofs.Offering.{numbers_left}
use Rattle.hb_relays.proofs.relays.Relays.stop_gates.Given as goal

-- those in front of the number have ended
abbrev pub invariant-loop-from : goal.invariant-loop-from
invariant-loop-from l = record {
  ended : GatesEnding l.cause l.from l.initial.self l.self;
  stirs : Stirs l.initial.self l.self;
}

abbrev pub decreases-loop-from : goal.decreases-loop-from
decreases-loop-from l = numbers_left l.from
