-- Lists of frames of which each has a property.
use Rattle.std.proofs.Common.{ℕ, ◌≡◌, zero, suc, Bool, true, false, cond, List, [], ◌∷◌, ◌++◌, drop, refl}
use Rattle.std.specs.List.{AllByRecursion, filter}
use Rattle.hb_frames.specs.RawFrame.{RawFrame}

abbrev pub Each : (RawFrame → Type 0) → List RawFrame → Type 0
Each P fs = AllByRecursion P fs

module _ (P : RawFrame → Type 0) where
  pub each_more : (fs : List RawFrame) (f : RawFrame) → Each P fs → P f → Each P (fs ++ f ∷ [])
  each_more [] f each is = (is, tt)
  each_more (g ∷ fs) f each is = (each.0, each_more fs f each.1 is)

  pub each_left : (n : ℕ) (fs : List RawFrame) → Each P fs → Each P (drop n fs)
  each_left zero [] each = tt
  each_left zero (f ∷ fs) each = each
  each_left (suc n) [] each = tt
  each_left (suc n) (f ∷ fs) each = each_left n fs each.1

  -- a property that those that are kept have, where each had this one
  pub each_kept : (Q : RawFrame → Type 0) (p : RawFrame → Bool) → ((f : RawFrame) → p f ≡ true → P f → Q f) → (fs : List RawFrame)
      → Each P fs → Each Q (filter p fs)
  each_kept Q p so [] each = tt
  each_kept Q p so (f ∷ fs) each = by (p f) (λ is. so f is each.0) (each_kept Q p so fs each.1)
    where
      by : (b : Bool) → (b ≡ true → Q f) → Each Q (filter p fs) → Each Q (cond b (f ∷ filter p fs) (filter p fs))
      by true is rest = (is refl, rest)
      by false is rest = rest

  pub each_filtered : (p : RawFrame → Bool) (fs : List RawFrame) → Each P fs → Each P (filter p fs)
  each_filtered p fs each = each_kept P p (λ f is had. had) fs each

  pub each_so : (Q : RawFrame → Type 0) → ((f : RawFrame) → P f → Q f) → (fs : List RawFrame) → Each P fs → Each Q fs
  each_so Q so [] each = tt
  each_so Q so (f ∷ fs) each = (so f each.0, each_so Q so fs each.1)

  -- two properties of each make a third one
  pub each_both : (Q R : RawFrame → Type 0) → ((f : RawFrame) → P f → Q f → R f) → (fs : List RawFrame) → Each P fs → Each Q fs
      → Each R fs
  each_both Q R so [] each others = tt
  each_both Q R so (f ∷ fs) each others = (so f each.0 others.0, each_both Q R so fs each.1 others.1)
