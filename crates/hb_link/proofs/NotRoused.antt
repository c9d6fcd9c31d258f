-- What may not be left untold of upstreams.
use Rattle.std.proofs.Common.{◌≡◌, ⊎_elim, inr, None, Some, refl, sym, ◌∙◌, arith}
use Rattle.std.proofs.lemmas.Bool.{false≢true}
use Rattle.hb_link.specs.Observed.{up_on}
use Rattle.hb_link.specs.Refused.{ForgetsRoused, WakesNone, SkipsRoused, MayRouseAll}

pub forgets_roused : ForgetsRoused
forgets_roused k n s was is rouses = false≢true (sym is ∙ (rouses s).kept was)

pub wakes_none : WakesNone
wakes_none k n s none one is rouses =
    ⊎_elim (λ still. omega (arith, still, one)) (λ roused. false≢true (sym is ∙ roused)) ((rouses s).reads none)

pub skips_roused : SkipsRoused
skips_roused k n s some was tells =
    ⊎_elim (λ still. false≢true (sym (tells.none refl s) ∙ still))
    (λ told. (let never : None ≡ Some (up_on k s) = told in cc)) (tells.passes.kept s some was)

pub may_rouse_all : MayRouseAll
may_rouse_all k n all s = record { kept = λ was. all s; reads = λ was. inr (all s); writes = λ was. inr (all s) }
