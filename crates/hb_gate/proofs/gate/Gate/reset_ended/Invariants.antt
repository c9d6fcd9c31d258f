use Rattle.std.proofs.Common.{◌≡◌}
use Rattle.hb_gate.specs.Looking.{left_to_look}
use Rattle.hb_gate.proofs.Resets.{ResetsTo}
use Rattle.hb_gate.proofs.Walks.{left_from}
use Rattle.hb_gate.proofs.gate.Gate.reset_ended.Given as goal

-- the streams in front of this one are reset, and what came is still to be looked at
abbrev pub invariant-loop-from : goal.invariant-loop-from
invariant-loop-from l = record {
  resets : ResetsTo l.from l.initial.self l.self;
  left : left_to_look l.self ≡ left_to_look l.initial.self;
}

abbrev pub decreases-loop-from : goal.decreases-loop-from
decreases-loop-from l = left_from l.from
