use Rattle.std.proofs.Common.{None, length}
use Rattle.hb_relays.specs.Touched.{TakesOut}
use Rattle.hb_relays.proofs.touched.Touched.next_listed.Given as goal

-- so far none was taken out that is kept
abbrev pub invariant-loop-number : goal.invariant-loop-number
invariant-loop-number g l = TakesOut l.relays None l.initial.self l.self

abbrev pub decreases-loop-number : goal.decreases-loop-number
decreases-loop-number g l = length l.self.listed
