use Rattle.hb_link.specs.Putting.{PutsBelow}
use Rattle.hb_link.specs.Rousing.{Rouses}
use Rattle.hb_link.specs.Settling.{AlwaysSettles}
use Rattle.hb_link.proofs.Loads.{left_from}
use Rattle.hb_link.proofs.link.Link.put_behind.Given as goal

-- more may be put, and upstreams were roused
abbrev pub invariant-loop-from : goal.invariant-loop-from
invariant-loop-from g l =
    AlwaysSettles (PutsBelow 0 0) (PutsBelow 0 0) l.initial.self (g.N.Notes.told l.initial.notes) l.self (g.N.Notes.told l.notes)
    × Rouses l.initial.self l.self

abbrev pub decreases-loop-from : goal.decreases-loop-from
decreases-loop-from g l = left_from l.from
