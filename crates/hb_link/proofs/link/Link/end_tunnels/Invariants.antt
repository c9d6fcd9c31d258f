use Rattle.hb_link.specs.Marking.{ended_tunnel}
use Rattle.hb_link.proofs.Loads.{place_of, left_from}
use Rattle.hb_link.proofs.Marked.{ChangedBelow}
use Rattle.hb_link.proofs.link.Link.end_tunnels.Given as goal

-- the tunnels in front of the stream have ended, the others are as they were
abbrev pub invariant-loop-from : goal.invariant-loop-from
invariant-loop-from l = ChangedBelow (ended_tunnel l.cause) (place_of l.from) l.initial.self l.self

abbrev pub decreases-loop-from : goal.decreases-loop-from
decreases-loop-from l = left_from l.from
