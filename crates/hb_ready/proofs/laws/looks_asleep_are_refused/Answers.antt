use Rattle.std.proofs.Common.{◌≡◌, true, false, [], ◌∷◌, refl, inl}
use Rattle.hb_world.specs.Trace.{AtEach}
use Rattle.hb_world.specs.declared.entry.Entry.TheVariants as e
use Rattle.hb_world.specs.declared.entry.Way.TheVariants as way
use Rattle.hb_world.proofs.TraceLemmas.{AtEach-grows}
use Rattle.hb_ready.specs.Awake.{IsAwake}
use Rattle.hb_ready.specs.Refused.{names_one}
use Rattle.hb_ready.proofs.laws.looks_asleep_are_refused.Goals as goal

slept : true ≡ false → ⊥
slept is = cc

unended : false ≡ true → ⊥
unended is = cc

nothing : AtEach IsAwake []
nothing [] x after is = absurd (cc)
nothing (b ∷ bs) x after is = absurd (cc)

pub returns-clause-whole : goal.returns-clause-whole
returns-clause-whole c = λ to why law. unended (law (e.Dialled 1 to why ∷ e.Opened 1 ∷ names_one ∷ []) _ _ refl).0

pub returns-clause-at_once : goal.returns-clause-at_once
returns-clause-at_once c = λ to why law. slept (law (e.Dialled 1 to why ∷ e.Opened 1 ∷ e.Ended 1 ∷ []) _ _ refl).1

pub returns-clause-again : goal.returns-clause-again
returns-clause-again c = λ to why law.
    slept (law (e.Dialled 1 to why ∷ e.Opened 1 ∷ e.Ended 1 ∷ names_one ∷ e.Balked (way.Look 1) ∷ []) _ _ refl).1

pub returns-clause-good : goal.returns-clause-good
returns-clause-good c = λ to why.
    AtEach-grows IsAwake _ _ (AtEach-grows IsAwake _ _ (AtEach-grows IsAwake _ _ (AtEach-grows IsAwake _ _
    (AtEach-grows IsAwake _ _ (AtEach-grows IsAwake _ _ (AtEach-grows IsAwake [] _ nothing tt) refl) refl) tt) (refl, refl)) tt) (inl refl)
