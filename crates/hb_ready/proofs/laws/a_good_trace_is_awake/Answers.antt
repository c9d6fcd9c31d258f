use Rattle.std.proofs.Common.{[], ◌∷◌, refl, inl}
use Rattle.hb_world.specs.Trace.{AtEach}
use Rattle.hb_world.proofs.TraceLemmas.{AtEach-grows}
use Rattle.hb_ready.specs.Awake.{IsAwake}
use Rattle.hb_ready.proofs.laws.a_good_trace_is_awake.Goals as goal

nothing : AtEach IsAwake []
nothing [] x after is = absurd (cc)
nothing (b ∷ bs) x after is = absurd (cc)

pub returns : goal.returns
returns c = λ to why bytes.
    AtEach-grows IsAwake _ _ (AtEach-grows IsAwake _ _ (AtEach-grows IsAwake _ _ (AtEach-grows IsAwake _ _
    (AtEach-grows IsAwake _ _ (AtEach-grows IsAwake _ _ (AtEach-grows IsAwake _ _ (AtEach-grows IsAwake _ _
    (AtEach-grows IsAwake _ _ (AtEach-grows IsAwake _ _ (AtEach-grows IsAwake _ _ (AtEach-grows IsAwake [] _ nothing tt) refl) tt)
    refl) refl) refl) refl) refl) refl) tt) refl) (inl refl)
