use Rattle.hb_link.proofs.Loads.{left_from}
use Rattle.hb_link.proofs.Walked.{Walked}
use Rattle.hb_link.proofs.link.Link.next_up.Given as goal

-- none in front of the stream has an upstream
abbrev pub invariant-loop-at : goal.invariant-loop-at
invariant-loop-at l = Walked l.fn.from l.at l.self

abbrev pub decreases-loop-at : goal.decreases-loop-at
decreases-loop-at l = left_from l.at
