use Rattle.std.proofs.Common.{◌≡◌, ◌++◌}
use Rattle.std.specs.FinMap.{entries}
use Rattle.hb_held.specs.Rows.{versions_in}
use Rattle.hb_held.proofs.rows.versions_in.Given as goal

-- the names so far, and those that are left
abbrev pub invariant-loop-name : goal.invariant-loop-name
invariant-loop-name g l = l.versions ++ versions_in l.rest ≡ versions_in (entries l.items)
