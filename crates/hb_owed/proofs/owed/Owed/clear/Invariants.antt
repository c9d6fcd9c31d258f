use Rattle.std.specs.FinMap.{len}
use Rattle.hb_owed.specs.Debts.{AreNumbered}
use Rattle.hb_owed.proofs.owed.Owed.clear.Given as goal

abbrev pub invariant-loop-stream : goal.invariant-loop-stream
invariant-loop-stream l = AreNumbered l.self-inside.streams

abbrev pub decreases-loop-stream : goal.decreases-loop-stream
decreases-loop-stream l = len l.self-inside.streams
