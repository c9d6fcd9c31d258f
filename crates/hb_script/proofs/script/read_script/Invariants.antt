use Rattle.std.proofs.Common.{◌≡◌, ◌+◌, ◌≤◌, length, Ok}
use Rattle.hb_script.specs.Script.{rows, joined, lines_from, lines}
use Rattle.hb_script.proofs.script.read_script.Given as goal

-- the lines that are read, before those of the rows that are left, are those of all rows
abbrev pub invariant-loop-left : goal.invariant-loop-left
invariant-loop-left l = record {
  within : l.number + length l.left ≤ length l.b + 1;
  same : joined (Ok l.lines) (lines_from l.number (rows l.left)) ≡ lines l.b;
}

abbrev pub decreases-loop-left : goal.decreases-loop-left
decreases-loop-left l = length l.left
