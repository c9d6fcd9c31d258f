use Rattle.std.proofs.Common.{◌≡◌, slice_get}
use Rattle.hb_held.specs.Rows.{rows, rows_left}
use Rattle.hb_held.proofs.held.Held.nth.Given as goal

-- the row stands at the place that is left
abbrev pub invariant-loop-before : goal.invariant-loop-before
invariant-loop-before l = slice_get (rows_left l.rows) l.before ≡ slice_get (rows l.self) l.i

abbrev pub decreases-loop-before : goal.decreases-loop-before
decreases-loop-before l = l.before
