use Rattle.hb_relays.specs.Stirring.{Stirs}
use Rattle.hb_relays.proofs.PumpedGate.{SoFar}
use Rattle.hb_relays.proofs.Settling.{streams_left}
use Rattle.hb_relays.proofs.relays.Relays.pump_from.Given as goal

-- what may be put on the streams in front of the number is
abbrev pub invariant-loop-from : goal.invariant-loop-from
invariant-loop-from g l = record {
  pumped : SoFar l.number l.fn.first l.from l.initial.self (g.N.Notes.told l.initial.notes) l.self (g.N.Notes.told l.notes);
  stirs : Stirs l.initial.self l.self;
}

abbrev pub decreases-loop-from : goal.decreases-loop-from
decreases-loop-from g l = streams_left l.from
