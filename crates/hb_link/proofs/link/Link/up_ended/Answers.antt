use Rattle.std.specs.Prelude.{⊤}
use Rattle.hb_world.specs.declared.entry.Entry.TheVariants as e
use Rattle.hb_inbound.specs.Part.{up}
use Rattle.hb_link.proofs.Ending.{up_ends}
use Rattle.hb_link.proofs.Settles.{meets_settled}
use Rattle.hb_link.specs.Marking.{down_ended_tunnel}
use Rattle.hb_link.proofs.Quiet.{down_ended_quiet}
use Rattle.hb_link.proofs.Rousing.{changes_rouse, rouses_then}
use Rattle.hb_link.proofs.link.Link.up_ended.Goals as goal

pub returns-clause-enters : goal.returns-clause-enters
returns-clause-enters g c = λ u.
    let k = c.args.self.now in
    let n = c.end_down.new.self in
    meets_settled (λ a. ⊤) (up c.args.stream (e.Ended u)) k n c.settle.new.self
    (g.N.Notes.told c.args.notes.now) (g.N.Notes.told c.settle.new.notes)
    (up_ends k n c.args.stream u c.end_down.ensures) c.settle.ensures.settles

pub returns-clause-rouses : goal.returns-clause-rouses
returns-clause-rouses g c =
    let k = c.args.self.now in
    let mid = c.end_down.new.self in
    rouses_then k mid c.settle.new.self
    (changes_rouse down_ended_tunnel c.args.stream k mid down_ended_quiet c.end_down.ensures) c.settle.ensures.rouses
