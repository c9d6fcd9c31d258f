-- Which targets are dialled, read off the verdict.
use Rattle.std.proofs.Common.{◌≡◌, Bool, true, false, not, ◌||◌, cond, refl, ap, subst, sym, ◌∙◌}
use Rattle.std.proofs.lemmas.Bool.{or_right}
use Rattle.hb_base.specs.declared.target.Target.{Target}
use Rattle.hb_table.specs.Judgement.{judged}
use Rattle.hb_table.specs.declared.judgement.Judged.{Judged}
use Rattle.hb_table.specs.declared.judgement.Judged.TheVariants.{Admitted, Unknown, Denied}
use Rattle.hb_verdict.specs.Laws.{DialsWhereItMay, DialsAllThatItMay, NeverDialsItsDoor, NeverDialsNowhere}
use Rattle.hb_verdict.specs.Verdict.{synced, is_unspecified, is_own_door, leads_back, dial_admitted, dial_judged, verdict}
use Rattle.hb_verdict.specs.declared.request.Request.TheVariants.{Refused, Malformed, Connect}
use Rattle.hb_verdict.specs.declared.verdict.Verdict.{Verdict}
use Rattle.hb_verdict.specs.declared.verdict.Verdict.TheVariants.{Status, Dial}

-- where the target doesn't lead back, with a place left
free : (own full : Bool) (target other : Target) → dial_admitted own full target ≡ Dial other
    → (own ≡ false) × (full ≡ false) × (target ≡ other)
free true full target other is = absurd cc
free false true target other is = absurd cc
free false false target other is = (refl, refl, cc)

-- admitted
dialled : (j : Judged) (own full : Bool) (target other : Target) → dial_judged j own full target ≡ Dial other
    → (j ≡ Admitted) × (own ≡ false) × (full ≡ false) × (target ≡ other)
dialled Unknown own full target other is = absurd cc
dialled Denied own full target other is = absurd cc
dialled Admitted own full target other is = let free_is = free own full target other is in (refl, free_is.0, free_is.1, free_is.2)

told : (came : Bool) (v : Verdict) (target : Target) → cond (not came) (Status 503) v ≡ Dial target → (came ≡ true) × (v ≡ Dial target)
told false v target is = absurd cc
told true v target is = (refl, is)

pub only_where_it_may : DialsWhereItMay
only_where_it_may (Refused status) h peer full target is = absurd cc
only_where_it_may Malformed h peer full target is = absurd cc
only_where_it_may (Connect wanted) h peer full target is =
    let back = leads_back h.doors wanted in
    let (came, judges) = told (synced h) (dial_judged (judged h peer wanted) back full wanted) target is in
    let (admitted, elsewhere, left, same) = dialled (judged h peer wanted) back full wanted target judges in
    record {
      asked = ap Connect same;
      told = came;
      admitted = subst (λ t. judged h peer t ≡ Admitted) same admitted;
      elsewhere = subst (λ t. leads_back h.doors t ≡ false) same elsewhere;
      left = left;
    }

pub all_that_it_may : DialsAllThatItMay
all_that_it_may request h peer full target may =
    ap (λ r. verdict r h peer full) may.asked
    ∙ ap (λ b. cond (not b) (Status 503) (dial_judged (judged h peer target) (leads_back h.doors target) full target)) may.told
    ∙ ap (λ j. dial_judged j (leads_back h.doors target) full target) may.admitted
    ∙ ap (λ back. dial_admitted back full target) may.elsewhere ∙ ap (λ f. dial_admitted false f target) may.left

different : (b : Bool) → b ≡ true → b ≡ false → ⊥
different true is isnt = absurd cc
different false is isnt = absurd cc

pub never_its_door : NeverDialsItsDoor
never_its_door request h peer full target own is =
    different (leads_back h.doors target) (or_right (is_unspecified target.ip) (is_own_door h.doors target) own)
    (only_where_it_may request h peer full target is).elsewhere

pub never_nowhere : NeverDialsNowhere
never_nowhere request h peer full target nowhere is =
    different (leads_back h.doors target) (ap (λ b. b || is_own_door h.doors target) nowhere)
    (only_where_it_may request h peer full target is).elsewhere
