use Rattle.std.proofs.Common.{true}
use Rattle.hb_relays.specs.Looking.{LooksOnce, left_at}
use Rattle.hb_relays.specs.Stirring.{Stirs}
use Rattle.hb_relays.proofs.relays.Relays.look_all.Given as goal

-- looks led it on
abbrev pub invariant-loop-bytes : goal.invariant-loop-bytes
invariant-loop-bytes g l = record {
  looks : LooksOnce l.fn.number true l.initial.self (g.N.Notes.told l.initial.notes) l.self (g.N.Notes.told l.notes);
  stirs : Stirs l.initial.self l.self;
}

abbrev pub decreases-loop-bytes : goal.decreases-loop-bytes
decreases-loop-bytes g l = left_at l.fn.number l.self
