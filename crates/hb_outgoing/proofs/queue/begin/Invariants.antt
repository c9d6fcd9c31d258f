use Rattle.std.proofs.Common.{◌-◌}
use Rattle.hb_outgoing.proofs.Walks.{Begins}
use Rattle.hb_outgoing.proofs.queue.begin.Given as goal

abbrev pub invariant-loop-end : goal.invariant-loop-end
invariant-loop-end l = Begins l.bytes l.rest l.fn.begun l.n l.end l.head l.count

abbrev pub decreases-loop-end : goal.decreases-loop-end
decreases-loop-end l = l.n - l.end
