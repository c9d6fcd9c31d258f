use Rattle.std.proofs.Common.{refl}
use Rattle.std.specs.Prelude.{⊤}
use Rattle.hb_link.specs.Putting.{PutsBelow}
use Rattle.hb_link.proofs.PutsOn.{puts_somewhere}
use Rattle.hb_link.proofs.Settles.{stays}
use Rattle.hb_link.proofs.Rousing.{rouses_same}
use Rattle.hb_link.proofs.link.Link.put_again.Goals as goal

pub returns-then-counts-eq1-clause-settles : goal.returns-then-counts-eq1-clause-settles
returns-then-counts-eq1-clause-settles g c =
    let s = c.last-last.result in
    puts_somewhere c.args.self.now s c.put_on.new.self (g.N.Notes.told c.args.notes.now) (g.N.Notes.told c.put_on.new.notes)
    (c.put_on.ensures.settles s)

pub returns-else-counts-eq1-clause-settles : goal.returns-else-counts-eq1-clause-settles
returns-else-counts-eq1-clause-settles g c = λ limits.
    stays limits (λ held. ⊤) (PutsBelow 0 0) (PutsBelow 0 0) c.args.self.now (g.N.Notes.told c.args.notes.now) (λ x below. below)

pub returns-else-counts-eq1-clause-rouses : goal.returns-else-counts-eq1-clause-rouses
returns-else-counts-eq1-clause-rouses g c = rouses_same c.args.self.now c.args.self.now refl refl
