use Rattle.std.proofs.Common.{◌≡◌, true, false, [], ◌∷◌, refl, ⊎_elim}
use Rattle.hb_base.specs.declared.door.Door.TheVariants.{Inbound}
use Rattle.hb_world.specs.declared.entry.Entry.TheVariants as e
use Rattle.hb_world.specs.declared.entry.ReadyItem.TheVariants as item
use Rattle.hb_world.specs.declared.entry.Woken.TheVariants as woken
use Rattle.hb_turns.specs.Refused.{names}
use Rattle.hb_turns.proofs.laws.hurried_waits_are_refused.Goals as goal

awake : false ≡ true → ⊥
awake is = cc

asked : true ≡ false → ⊥
asked is = cc

pub returns-clause-due : goal.returns-clause-due
returns-clause-due g c = λ due law. let at = law [] _ _ refl refl in due at.node at.idle

pub returns-clause-readable : goal.returns-clause-readable
returns-clause-readable g c = λ to why wants law.
    let at = law (e.Dialled 1 to why ∷ e.Opened 1 ∷ []) _ _ refl refl in ⊎_elim awake (wants at.node) (at.links 1).0

pub returns-clause-unwritten : goal.returns-clause-unwritten
returns-clause-unwritten g c = λ to why output law.
    let at = law (e.Dialled 1 to why ∷ e.Opened 1 ∷ []) _ _ refl refl in ⊎_elim awake (output at.node) (at.links 1).1

pub returns-clause-unasked : goal.returns-clause-unasked
returns-clause-unasked g c = λ to why law. let at = law (e.Dialled 1 to why ∷ []) _ _ refl refl in awake (at.links 1)

pub returns-clause-unaccepted : goal.returns-clause-unaccepted
returns-clause-unaccepted g c = λ law.
    let at = law (e.Wait (item.Door Inbound ∷ []) woken.Woke ∷ []) _ _ refl refl in asked (at.doors Inbound)

pub returns-clause-unlooked : goal.returns-clause-unlooked
returns-clause-unlooked g c = λ to why law.
    let at = law (e.Dialled 1 to why ∷ e.Opened 1 ∷ e.Ended 1 ∷ names ∷ []) _ _ refl refl in ⊎_elim asked awake (at.links 1).2
