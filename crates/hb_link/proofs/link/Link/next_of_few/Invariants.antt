use Rattle.std.proofs.Common.{None, length}
use Rattle.hb_link.specs.Rousing.{Passes}
use Rattle.hb_link.proofs.link.Link.next_of_few.Given as goal

-- those that were taken have no upstream
abbrev pub invariant-loop-stream : goal.invariant-loop-stream
invariant-loop-stream l = Passes None l.initial.self l.self

abbrev pub decreases-loop-stream : goal.decreases-loop-stream
decreases-loop-stream l = length l.self.roused.few.items
