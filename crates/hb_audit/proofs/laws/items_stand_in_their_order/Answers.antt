use Rattle.std.proofs.Common.{◌≡◌, refl, inl, inr, ⊎_elim}
use Rattle.hb_audit.proofs.laws.items_stand_in_their_order.Goals as goal

pub returns-clause-some : goal.returns-clause-some
returns-clause-some c = inl (refl, inr (inl (refl, tt)))

pub returns-clause-swapped : goal.returns-clause-swapped
returns-clause-swapped c =
    ⊎_elim (λ here. let same : 1 ≡ 2 = here.0 in absurd cc) (⊎_elim (λ here. here.1) (λ none. none))

pub returns-clause-twice : goal.returns-clause-twice
returns-clause-twice c =
    ⊎_elim (λ here. ⊎_elim (λ next. let same : 1 ≡ 2 = next.0 in absurd cc) (λ none. none) here.1)
    (⊎_elim (λ here. let same : 1 ≡ 2 = here.0 in absurd cc) (λ none. none))

pub returns-clause-new : goal.returns-clause-new
returns-clause-new c =
    ⊎_elim (λ here. let same : 3 ≡ 1 = here.0 in absurd cc)
    (⊎_elim (λ here. let same : 3 ≡ 2 = here.0 in absurd cc) (λ none. none))
