-- Why a link ended, once one more point stands at the end of a run.
use Rattle.std.proofs.Common.{◌≡◌, ℕ, Bool, false, List, [], ◌∷◌, ◌++◌, Option, Some, None, refl, ap, ap₂, ◌∙◌}
use Rattle.hb_base.specs.declared.cause.Cause.{Cause}
use Rattle.hb_model.specs.Point.{Point}
use Rattle.hb_model.specs.Ends.{end_in, answered_in, first_of, first_end, end_of}

-- whether a status 200 came on a link
pub answered_after : ℕ → Bool → List Point → Bool
answered_after k answered [] = answered
answered_after k answered (p ∷ points) = answered_after k (answered_in k answered p) points

abbrev pub answered_on : ℕ → List Point → Bool
answered_on k points = answered_after k false points

first-none : (o : Option Cause) → first_of o None ≡ o
first-none None = refl
first-none (Some why) = refl

first-first : (a b c : Option Cause) → first_of a (first_of b c) ≡ first_of (first_of a b) c
first-first None b c = refl
first-first (Some why) b c = refl

after-grows : (k : ℕ) (answered : Bool) (points : List Point) (p : Point)
    → answered_after k answered (points ++ p ∷ []) ≡ answered_in k (answered_after k answered points) p
unfolding answered_after
after-grows k answered [] p = refl
after-grows k answered (q ∷ points) p = after-grows k (answered_in k answered q) points p

first-grows : (k : ℕ) (answered : Bool) (points : List Point) (p : Point)
    → first_end k answered (points ++ p ∷ []) ≡ first_of (first_end k answered points) (end_in k (answered_after k answered points) p)
unfolding answered_after
first-grows k answered [] p = first-none (end_in k answered p)
first-grows k answered (q ∷ points) p =
    ap (first_of (end_in k answered q)) (first-grows k (answered_in k answered q) points p)
    ∙ first-first (end_in k answered q) (first_end k (answered_in k answered q) points) _

pub answered-grows : (k : ℕ) (points : List Point) (p : Point) → answered_on k (points ++ p ∷ []) ≡ answered_in k (answered_on k points) p
answered-grows k points p = after-grows k false points p

pub end-grows : (k : ℕ) (points : List Point) (p : Point)
    → end_of k (points ++ p ∷ []) ≡ first_of (end_of k points) (end_in k (answered_on k points) p)
end-grows k points p = first-grows k false points p

-- a link that hadn't ended ends where this point ends it
pub end-now : (k : ℕ) (points : List Point) (p : Point) (o : Option Cause) → end_of k points ≡ None
    → end_in k (answered_on k points) p ≡ o → end_of k (points ++ p ∷ []) ≡ o
end-now k points p o none is = end-grows k points p ∙ ap₂ first_of none is

-- the first end stays
pub end-before : (k : ℕ) (points : List Point) (p : Point) (why : Cause) → end_of k points ≡ Some why
    → end_of k (points ++ p ∷ []) ≡ Some why
end-before k points p why is = end-grows k points p ∙ ap (λ (o : Option Cause). first_of o (end_in k (answered_on k points) p)) is

pub answered-none : (k : ℕ) → answered_on k [] ≡ false
unfolding answered_after
answered-none k = refl
