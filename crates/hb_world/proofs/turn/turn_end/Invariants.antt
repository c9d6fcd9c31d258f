use Rattle.std.proofs.Common.{◌≡◌, drop}
use Rattle.hb_world.specs.Script.{turn_ends}
use Rattle.hb_world.proofs.turn.turn_end.Given as goal

abbrev pub invariant-loop-line : goal.invariant-loop-line
invariant-loop-line l = turn_ends (drop l.line-index l.lines) ≡ turn_ends l.lines
