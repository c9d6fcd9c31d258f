use Rattle.std.proofs.Common.{rules, arith, ◌+◌}
use Rattle.hb_audit.specs.HeldBy.{answers_by}
use Rattle.hb_audit.specs.Told.{told_of}
use Rattle.hb_audit.proofs.TellsLemmas.{told_kept, told_dropped, told_all}
use Rattle.hb_audit.proofs.audits.Audits.tell.Goals as goal

pub loop-at-preserved-in-Kept : goal.loop-at-preserved-in-Kept
loop-at-preserved-in-Kept g c =
    let l = c.loop-at in
    let h = told_kept (answers_by g.A.Audit.notes g.A.Audit.answers) c.args.self.now.audits.items l.self.audits.items l.at
    (l.at + l.dropped) (told_of c.args.n.now c.args.reason) l.invariant.told (l.at + 1 + l.dropped) c.index_mut.result.now
    c.note.new.self c.note.result l.invariant.rest
    (search rules)
    c.index_mut.ensures.value (c.note.ensures.own, c.note.ensures.held) c.in-Kept.is (omega arith) in
    record { told = h.0; rest = h.1; within = search rules; all = search rules }

pub loop-at-preserved : goal.loop-at-preserved
loop-at-preserved g c =
    let l = c.loop-at in
    let h = told_dropped (answers_by g.A.Audit.notes g.A.Audit.answers) c.args.self.now.audits.items l.self.audits.items l.at
    (l.at + l.dropped) (told_of c.args.n.now c.args.reason) l.invariant.told c.remove.new.self.items (l.at + (l.dropped + 1))
    c.index_mut.result.now c.note.new.self
    c.note.result l.invariant.rest (search rules) c.index_mut.ensures.value (c.note.ensures.own, c.note.ensures.held) c.in-Failed.is
    c.remove.ensures.items (omega arith) in
    record { told = h.0; rest = h.1; within = search rules; all = search rules }

pub returns-clause-one : goal.returns-clause-one
returns-clause-one g c =
    let l = c.loop-at in
    told_all (answers_by g.A.Audit.notes g.A.Audit.answers) c.args.self.now.audits.items l.self.audits.items l.at (l.at + l.dropped)
    (told_of c.args.n.now c.args.reason) l.invariant.told (search rules) (search rules)
