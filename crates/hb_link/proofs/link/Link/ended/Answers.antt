use Rattle.std.specs.Prelude.{⊤}
use Rattle.hb_world.specs.declared.entry.Entry.TheVariants as e
use Rattle.hb_inbound.specs.Part.{entry}
use Rattle.hb_link.proofs.Settles.{meets_settled}
use Rattle.hb_link.proofs.Rousing.{rouses_then}
use Rattle.hb_link.proofs.link.Link.ended.Goals as goal

pub returns-clause-enters : goal.returns-clause-enters
returns-clause-enters g c =
    let k = c.args.self.now in
    let n = c.mark_ended.new.self in
    meets_settled (λ a. ⊤) (entry (e.Ended c.args.self.now.number)) k n c.settle.new.self
    (g.N.Notes.told c.args.notes.now) (g.N.Notes.told c.settle.new.notes)
    (c.mark_ended.ensures.marks) c.settle.ensures.settles

pub returns-clause-rouses : goal.returns-clause-rouses
returns-clause-rouses g c =
    rouses_then c.args.self.now c.mark_ended.new.self c.settle.new.self c.mark_ended.ensures.rouses c.settle.ensures.rouses
