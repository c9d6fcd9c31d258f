use Rattle.hb_link.proofs.Acting.{NoneBelow}
use Rattle.hb_link.proofs.Loads.{place_of, left_from}
use Rattle.hb_link.proofs.link.Link.first_due.Given as goal

-- none is due in front of the stream
abbrev pub invariant-loop-from : goal.invariant-loop-from
invariant-loop-from l = NoneBelow (place_of l.from) l.self

abbrev pub decreases-loop-from : goal.decreases-loop-from
decreases-loop-from l = left_from l.from
