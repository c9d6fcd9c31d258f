use Rattle.std.specs.Prelude.{⊤}
use Rattle.hb_link.specs.Putting.{PutsBelow}
use Rattle.hb_link.proofs.Settles.{settles_then}
use Rattle.hb_link.proofs.Rousing.{rouses_then}
use Rattle.hb_link.proofs.link.Link.put_in_turn.Goals as goal

pub returns-clause-settles : goal.returns-clause-settles
returns-clause-settles g c = λ limits.
    settles_then limits (λ held. ⊤) (PutsBelow 0 0) (PutsBelow 0 0) (PutsBelow 0 0) c.args.self.now c.put_again.new.self
    c.put_behind.new.self (g.N.Notes.told c.args.notes.now) (g.N.Notes.told c.put_again.new.notes) (g.N.Notes.told c.put_behind.new.notes)
    (c.put_again.ensures.settles limits) (c.put_behind.ensures.settles limits)

pub returns-clause-rouses : goal.returns-clause-rouses
returns-clause-rouses g c =
    rouses_then c.args.self.now c.put_again.new.self c.put_behind.new.self c.put_again.ensures.rouses c.put_behind.ensures.rouses
