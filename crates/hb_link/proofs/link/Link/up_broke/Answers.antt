use Rattle.std.specs.Prelude.{⊤}
use Rattle.hb_world.specs.declared.entry.Entry.TheVariants as e
use Rattle.hb_inbound.specs.Part.{up}
use Rattle.hb_link.proofs.Ending.{up_breaks}
use Rattle.hb_link.proofs.Settles.{meets_settled}
use Rattle.hb_base.specs.declared.cause.Cause.TheVariants.{UpFault}
use Rattle.hb_link.specs.Marking.{ended_tunnel}
use Rattle.hb_link.proofs.Quiet.{ended_quiet}
use Rattle.hb_link.proofs.Rousing.{changes_rouse, rouses_then}
use Rattle.hb_link.proofs.link.Link.up_broke.Goals as goal

pub returns-clause-enters : goal.returns-clause-enters
returns-clause-enters g c = λ u.
    let k = c.args.self.now in
    let n = c.end_tunnel.new.self in
    meets_settled (λ a. ⊤) (up c.args.stream (e.Broke u)) k n c.settle.new.self
    (g.N.Notes.told c.args.notes.now) (g.N.Notes.told c.settle.new.notes)
    (up_breaks k n c.args.stream u c.end_tunnel.ensures) c.settle.ensures.settles

pub returns-clause-rouses : goal.returns-clause-rouses
returns-clause-rouses g c =
    let k = c.args.self.now in
    let mid = c.end_tunnel.new.self in
    rouses_then k mid c.settle.new.self
    (changes_rouse (ended_tunnel UpFault) c.args.stream k mid (ended_quiet UpFault) c.end_tunnel.ensures) c.settle.ensures.rouses
