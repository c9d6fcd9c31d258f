use Rattle.std.proofs.Common.{◌≡◌, ◌-◌, ◌≤◌, length, take, drop}
use Rattle.hb_buffer.proofs.buffer.move_down.Given as goal

abbrev pub invariant-loop-at : goal.invariant-loop-at
invariant-loop-at l = record {
  within : l.at ≤ l.initial.n;
  length : length l.bytes ≡ length l.initial.bytes;
  moved : take l.at l.bytes ≡ take l.at (drop l.initial.from l.initial.bytes);
  behind : drop l.at l.bytes ≡ drop l.at l.initial.bytes;
}

abbrev pub decreases-loop-at : goal.decreases-loop-at
decreases-loop-at l = l.n - l.at
