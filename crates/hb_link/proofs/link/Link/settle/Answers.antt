use Rattle.std.specs.Prelude.{⊤}
use Rattle.hb_link.specs.Settling.{IsMarked, MayPut}
use Rattle.hb_link.specs.Shows.{Shows}
use Rattle.hb_link.proofs.Settles.{settles_then, marked_settles}
use Rattle.hb_link.proofs.Rousing.{rouses_then}
use Rattle.hb_link.proofs.link.Link.settle.Goals as goal

pub returns-clause-settles : goal.returns-clause-settles
returns-clause-settles g c = λ limits.
    let k = c.args.self.now in
    let m = c.answer_all.new.self in
    let told = g.N.Notes.told c.args.notes.now in
    let mid = g.N.Notes.told c.answer_all.new.notes in
    settles_then limits (λ held. ⊤) IsMarked MayPut Shows k m c.put_all.new.self told mid (g.N.Notes.told c.put_all.new.notes)
    (marked_settles k m told mid c.answer_all.ensures.settles c.answer_all.ensures.came limits) (c.put_all.ensures.settles limits)

pub returns-clause-rouses : goal.returns-clause-rouses
returns-clause-rouses g c =
    rouses_then c.args.self.now c.answer_all.new.self c.put_all.new.self c.answer_all.ensures.came.rouses c.put_all.ensures.rouses
