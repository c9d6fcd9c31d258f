use Rattle.hb_links.specs.Load.{Recounts}
use Rattle.hb_links.proofs.Sweeping.{left_from}
use Rattle.hb_links.proofs.Telling.{Stopping}
use Rattle.hb_links.proofs.links.Links.stopped.Given as goal

-- the links in front of the number were told
abbrev pub invariant-loop-from : goal.invariant-loop-from
invariant-loop-from g l = record {
  told : Stopping l.cause l.initial.self l.self l.from (g.N.Notes.told l.initial.notes) (g.N.Notes.told l.notes);
  counts : Recounts l.initial.self l.self;
}

abbrev pub decreases-loop-from : goal.decreases-loop-from
decreases-loop-from g l = left_from l.from
