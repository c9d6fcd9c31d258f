use Rattle.std.proofs.Common.{◌≡◌, ◌+◌, drop, length}
use Rattle.hb_world.specs.Script.{turn_of}
use Rattle.hb_world.proofs.turn.turn_len.Given as goal

abbrev pub invariant-loop-line : goal.invariant-loop-line
invariant-loop-line l = record {
  count : l.passed ≡ l.line-index;
  rest : l.line-index + length (turn_of (drop l.line-index l.lines)) ≡ length (turn_of l.lines);
}
