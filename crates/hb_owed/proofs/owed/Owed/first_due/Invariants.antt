use Rattle.hb_owed.proofs.Walks.{AreClear}
use Rattle.std.proofs.Common.{ℕ, ◌-◌, Option, Some, None}
use Rattle.hb_owed.proofs.owed.Owed.first_due.Given as goal

abbrev pub invariant-loop-next : goal.invariant-loop-next
invariant-loop-next l = AreClear l.self l.next

abbrev left : Option ℕ → ℕ
left None = 0
left (Some next) = 4294967296 - next

abbrev pub decreases-loop-next : goal.decreases-loop-next
decreases-loop-next l = left l.next
