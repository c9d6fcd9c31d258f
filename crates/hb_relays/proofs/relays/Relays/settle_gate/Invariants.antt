use Rattle.std.proofs.Common.{◌≡◌}
use Rattle.hb_relays.specs.Looking.{left_at}
use Rattle.hb_relays.specs.Stirring.{Stirs}
use Rattle.hb_relays.proofs.Settling.{Mailing, streams_left}
use Rattle.hb_relays.proofs.relays.Relays.settle_gate.Given as goal

-- so far the mail was delivered, and what came is still to be looked at
abbrev pub invariant-loop-from : goal.invariant-loop-from
invariant-loop-from g l = record {
  told : Mailing l.number l.initial.self l.self l.from (g.N.Notes.told l.initial.notes) (g.N.Notes.told l.notes);
  left : left_at l.number l.self ≡ left_at l.number l.initial.self;
  stirs : Stirs l.initial.self l.self;
}

abbrev pub decreases-loop-from : goal.decreases-loop-from
decreases-loop-from g l = streams_left l.from
