use Rattle.std.proofs.Common.{List, [], ◌∷◌, ◌++◌, sym, subst}
use Rattle.std.proofs.lemmas.List.{append_assoc}
use Rattle.hb_world.specs.Journal.{Kept}
use Rattle.hb_world.specs.Lives.{AreLives}
use Rattle.hb_world.specs.declared.entry.Entry.{Entry}
use Rattle.hb_world.proofs.LifeLemmas.{lives-plain}
use Rattle.hb_world.proofs.trace.Trace.add_both.Goals as goal

pub invariant_of-self-2 : goal.invariant_of-self-2
invariant_of-self-2 c =
    let i = c.self.inside in
    let both : AreLives i.lives.items i.journal.owed (i.journal.entries ++ c.args.first ∷ c.args.second ∷ []) =
    subst (λ (t : List Entry). AreLives i.lives.items i.journal.owed t)
    (append_assoc i.journal.entries (c.args.first ∷ []) (c.args.second ∷ []))
    (lives-plain i.lives.items i.journal.owed _ c.args.second
    (lives-plain i.lives.items i.journal.owed i.journal.entries c.args.first c.self.invariant c.requires.first) c.requires.second) in
    subst (λ (k : Kept). AreLives i.lives.items k.owed k.entries) (sym c.in_ok-add_both.ensures.ok) both
