use Rattle.hb_link.proofs.Failing.{lacks_all}
use Rattle.hb_link.proofs.Rousing.{ends_rouse, rouses_then}
use Rattle.hb_link.proofs.link.Link.lack.Goals as goal

pub returns-clause-settles : goal.returns-clause-settles
returns-clause-settles g c =
    lacks_all c.args.self.now c.end_with.new.self c.end_with.ensures c.answer_all.new.self (g.N.Notes.told c.args.notes.now)
    (g.N.Notes.told c.answer_all.new.notes) c.answer_all.ensures.settles c.answer_all.ensures.came

pub returns-clause-rouses : goal.returns-clause-rouses
returns-clause-rouses g c =
    let k = c.args.self.now in
    let mid = c.end_with.new.self in
    rouses_then k mid c.answer_all.new.self (ends_rouse k mid _ _ c.end_with.ensures) c.answer_all.ensures.came.rouses
