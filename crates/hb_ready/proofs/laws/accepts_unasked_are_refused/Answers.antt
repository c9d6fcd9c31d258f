use Rattle.std.proofs.Common.{◌≡◌, true, false, [], ◌∷◌, refl}
use Rattle.hb_base.specs.declared.door.Door.TheVariants.{Inbound}
use Rattle.hb_world.specs.declared.entry.Entry.TheVariants as e
use Rattle.hb_world.specs.declared.entry.Way.TheVariants as way
use Rattle.hb_ready.specs.Refused.{names_both}
use Rattle.hb_ready.proofs.laws.accepts_unasked_are_refused.Goals as goal

unasked : false ≡ true → ⊥
unasked is = cc

pub returns-clause-unasked : goal.returns-clause-unasked
returns-clause-unasked c = λ door law. unasked (law [] _ _ refl)

pub returns-clause-again : goal.returns-clause-again
returns-clause-again c = λ law. unasked (law (names_both ∷ e.Balked (way.Accept Inbound) ∷ []) _ _ refl)
