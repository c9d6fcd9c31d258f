use Rattle.std.proofs.Common.{◌≡◌, true, false, [], ◌∷◌, refl, ⊎_elim}
use Rattle.hb_world.specs.declared.entry.Entry.TheVariants as e
use Rattle.hb_world.specs.declared.entry.ReadyItem.TheVariants as item
use Rattle.hb_world.specs.declared.entry.Way.TheVariants as way
use Rattle.hb_world.specs.declared.entry.Woken.TheVariants as woken
use Rattle.hb_ready.proofs.laws.calls_asleep_are_refused.Goals as goal

slept : true ≡ false → ⊥
slept is = cc

unended : false ≡ true → ⊥
unended is = cc

pub returns-clause-asks : goal.returns-clause-asks
returns-clause-asks c = λ to why law. slept (law (e.Dialled 1 to why ∷ e.Balked (way.Finish 1) ∷ []) _ _ refl)

pub returns-clause-reads : goal.returns-clause-reads
returns-clause-reads c = λ to why bytes law.
    slept (law (e.Dialled 1 to why ∷ e.Opened 1 ∷ e.Balked (way.Read 1) ∷ []) _ _ refl)

pub returns-clause-writes : goal.returns-clause-writes
returns-clause-writes c = λ to why bytes law.
    slept (law (e.Dialled 1 to why ∷ e.Opened 1 ∷ e.Balked (way.Write 1) ∷ e.Came 1 bytes ∷ []) _ _ refl)

pub returns-clause-unnamed : goal.returns-clause-unnamed
returns-clause-unnamed c = λ to why law.
    slept (law (e.Dialled 1 to why ∷ e.Opened 1 ∷ e.Balked (way.Read 1) ∷ e.Wait (item.Link 2 ∷ []) woken.Woke ∷ []) _ _ refl)

pub returns-clause-breaks : goal.returns-clause-breaks
returns-clause-breaks c = λ to why law.
    ⊎_elim slept (⊎_elim slept (λ looks. unended looks.0)) (law (e.Dialled 1 to why ∷ e.Opened 1 ∷ e.Balked (way.Read 1) ∷ e.Balked (way.Write 1) ∷ []) _ _ refl)
