use Rattle.std.proofs.Common.{Option, subst}
use Rattle.hb_relays.proofs.EndingLinks.{LinksEnding, links_start, links_go, links_end}
use Rattle.hb_relays.proofs.Offering.{first_is}
use Rattle.hb_relays.proofs.Stirs.{none_stirs, stirs_all_then}
use Rattle.hb_relays.proofs.relays.Relays.stop_links.Goals as goal

pub loop-from-init : goal.loop-from-init
loop-from-init g c = record {
  ended = links_start c.args.cause c.args.self.now c.first_from-from.result (g.N.Notes.told c.args.notes.now)
      (first_is c.args.self.now.relays c.first_from-from.result c.first_from-from.ensures);
  stirs = none_stirs c.args.self.now;
}

pub loop-from-preserved : goal.loop-from-preserved
loop-from-preserved g c = record {
  ended = links_go c.args.cause c.args.self.now c.loop-from.self c.stop_at.new.self c.in-Some.number c.next_behind-from.result
      (g.N.Notes.told c.args.notes.now) (g.N.Notes.told c.loop-from.notes) (g.N.Notes.told c.stop_at.new.notes)
      (subst (λ (from : Option _). LinksEnding c.args.cause c.args.self.now c.loop-from.self from (g.N.Notes.told c.args.notes.now)
      (g.N.Notes.told c.loop-from.notes)) c.in-Some.is c.loop-from.invariant.ended)
      c.stop_at.ensures.tells c.next_behind-from.ensures;
  stirs = stirs_all_then c.args.self.now c.loop-from.self c.stop_at.new.self c.loop-from.invariant.stirs c.stop_at.ensures.stirs;
}

pub returns-clause-stops : goal.returns-clause-stops
returns-clause-stops g c =
    links_end c.args.cause c.args.self.now c.loop-from.self (g.N.Notes.told c.args.notes.now) (g.N.Notes.told c.loop-from.notes)
    (subst (λ (from : Option _). LinksEnding c.args.cause c.args.self.now c.loop-from.self from (g.N.Notes.told c.args.notes.now)
    (g.N.Notes.told c.loop-from.notes)) c.in_default.is c.loop-from.invariant.ended)
