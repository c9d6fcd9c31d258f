use Rattle.hb_relays.specs.Stirring.{Stirs}
use Rattle.hb_relays.proofs.EndingLinks.{LinksEnding}
use Rattle.hb_relays.proofs.Offering.{numbers_left}
use Rattle.hb_relays.proofs.relays.Relays.stop_links.Given as goal

-- the links in front of the number were told
abbrev pub invariant-loop-from : goal.invariant-loop-from
invariant-loop-from g l = record {
  ended : LinksEnding l.cause l.initial.self l.self l.from (g.N.Notes.told l.initial.notes) (g.N.Notes.told l.notes);
  stirs : Stirs l.initial.self l.self;
}

abbrev pub decreases-loop-from : goal.decreases-loop-from
decreases-loop-from g l = numbers_left l.from
