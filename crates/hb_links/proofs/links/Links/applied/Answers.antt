use Rattle.std.proofs.Common.{Option, subst}
use Rattle.hb_links.proofs.Telling.{Applies, applied_starts, applied_goes, applied_ends, first_is}
use Rattle.hb_links.proofs.links.Links.applied.Goals as goal

pub loop-from-init : goal.loop-from-init
loop-from-init g c = record {
  told =
      applied_starts c.args.held.now c.args.self.now c.first_from-from.result (g.N.Notes.told c.args.notes.now)
      (first_is c.args.self.now.links c.first_from-from.result c.first_from-from.ensures);
  counts = λ all. all;
}

pub loop-from-preserved : goal.loop-from-preserved
loop-from-preserved g c = record {
  told =
      applied_goes c.args.held.now c.args.self.now c.loop-from.self c.judge_at.new.self c.in-Some.number c.first_behind-from.result
      (g.N.Notes.told c.args.notes.now) (g.N.Notes.told c.loop-from.notes) (g.N.Notes.told c.judge_at.new.notes)
      (subst (λ (from : Option _). Applies c.args.held.now c.args.self.now c.loop-from.self from (g.N.Notes.told c.args.notes.now)
      (g.N.Notes.told c.loop-from.notes)) c.in-Some.is c.loop-from.invariant.told)
      c.judge_at.ensures.judges c.first_behind-from.ensures;
  counts = λ all. c.judge_at.ensures.counts (c.loop-from.invariant.counts all);
}

pub returns-clause-meets : goal.returns-clause-meets
returns-clause-meets g c =
    applied_ends c.args.held.now c.args.self.now c.loop-from.self (g.N.Notes.told c.args.notes.now) (g.N.Notes.told c.loop-from.notes)
    (subst (λ (from : Option _). Applies c.args.held.now c.args.self.now c.loop-from.self from (g.N.Notes.told c.args.notes.now)
    (g.N.Notes.told c.loop-from.notes)) c.in_default.is c.loop-from.invariant.told)

pub returns-clause-stirs : goal.returns-clause-stirs
returns-clause-stirs g c = c.loop-from.invariant.told.0.stirs
