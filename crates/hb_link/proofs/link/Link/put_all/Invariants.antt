use Rattle.hb_link.specs.Putting.{PutsBelow}
use Rattle.hb_link.specs.Rousing.{Rouses}
use Rattle.hb_link.specs.Settling.{AlwaysSettles}
use Rattle.hb_link.proofs.Loads.{place_of, left_from}
use Rattle.hb_link.proofs.link.Link.put_all.Given as goal

-- nothing more may be put in front of the stream, and upstreams were roused
abbrev pub invariant-loop-from : goal.invariant-loop-from
invariant-loop-from g l =
    AlwaysSettles (PutsBelow 0 0) (PutsBelow 0 (place_of l.from)) l.initial.self (g.N.Notes.told l.initial.notes) l.self
    (g.N.Notes.told l.notes)
    × Rouses l.initial.self l.self

abbrev pub decreases-loop-from : goal.decreases-loop-from
decreases-loop-from g l = left_from l.from
