use Rattle.std.specs.Prelude.{⊤}
use Rattle.hb_inbound.specs.Part.{stopped}
use Rattle.hb_link.proofs.Ending.{all_stopped}
use Rattle.hb_link.proofs.Settles.{meets_settled}
use Rattle.hb_link.proofs.Rousing.{ends_rouse, rouses_then}
use Rattle.hb_link.proofs.link.Link.stopped.Goals as goal

pub returns-clause-stops : goal.returns-clause-stops
returns-clause-stops g c =
    let k = c.args.self.now in
    let n = c.end_with.new.self in
    meets_settled (λ a. ⊤) (stopped c.args.cause) k n c.settle.new.self
    (g.N.Notes.told c.args.notes.now) (g.N.Notes.told c.settle.new.notes)
    (all_stopped k n c.args.cause c.stopped.result c.stopped.ensures c.end_with.ensures) c.settle.ensures.settles

pub returns-clause-rouses : goal.returns-clause-rouses
returns-clause-rouses g c =
    let k = c.args.self.now in
    let mid = c.end_with.new.self in
    rouses_then k mid c.settle.new.self (ends_rouse k mid _ _ c.end_with.ensures) c.settle.ensures.rouses
