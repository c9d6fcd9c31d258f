use Rattle.std.proofs.Common.{◌≡◌, ◌+◌, ◌≤◌, length}
use Rattle.hb_cli.specs.Input.{left_through, left_by}
use Rattle.hb_cli.proofs.input.read_input.Given as goal

-- the messages that are left make of what was left so far what all of them make of nothing
abbrev pub invariant-loop-bytes : goal.invariant-loop-bytes
invariant-loop-bytes l = record {
  within : l.number + length l.bytes ≤ length l.input + 1;
  same : left_through l.tells l.number l.left l.bytes ≡ left_by l.tells l.fn.network l.fn.node l.input;
}

abbrev pub decreases-loop-bytes : goal.decreases-loop-bytes
decreases-loop-bytes l = length l.bytes
