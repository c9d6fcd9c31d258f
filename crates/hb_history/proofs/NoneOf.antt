-- Lists of frames of which none meets a test.
use Rattle.std.proofs.Common.{◌≡◌, ℕ, zero, suc, Bool, true, false, cond, List, [], ◌∷◌, ◌++◌, drop, refl}
use Rattle.std.specs.List.{AllByRecursion, filter}
use Rattle.hb_frames.specs.RawFrame.{RawFrame}

abbrev pub NoneOf : (RawFrame → Bool) → List RawFrame → Type 0
NoneOf q fs = AllByRecursion (λ g. q g ≡ false) fs

module _ (q : RawFrame → Bool) where
  pub none_more : (fs : List RawFrame) (f : RawFrame) → NoneOf q fs → q f ≡ false → NoneOf q (fs ++ f ∷ [])
  none_more [] f none is = (is, tt)
  none_more (g ∷ fs) f none is = (none.0, none_more fs f none.1 is)

  pub none_left : (n : ℕ) (fs : List RawFrame) → NoneOf q fs → NoneOf q (drop n fs)
  none_left zero [] none = tt
  none_left zero (f ∷ fs) none = none
  none_left (suc n) [] none = tt
  none_left (suc n) (f ∷ fs) none = none_left n fs none.1

  pub none_filtered : (p : RawFrame → Bool) (fs : List RawFrame) → NoneOf q fs → NoneOf q (filter p fs)
  none_filtered p [] none = tt
  none_filtered p (f ∷ fs) none = by (p f) (none_filtered p fs none.1)
    where
      by : (b : Bool) → NoneOf q (filter p fs) → NoneOf q (cond b (f ∷ filter p fs) (filter p fs))
      by true rest = (none.0, rest)
      by false rest = rest

  -- where what is kept doesn't meet it
  pub none_kept : (p : RawFrame → Bool) → ((f : RawFrame) → p f ≡ true → q f ≡ false) → (fs : List RawFrame) → NoneOf q (filter p fs)
  none_kept p apart [] = tt
  none_kept p apart (f ∷ fs) = by (p f) (apart f) (none_kept p apart fs)
    where
      by : (b : Bool) → (b ≡ true → q f ≡ false) → NoneOf q (filter p fs) → NoneOf q (cond b (f ∷ filter p fs) (filter p fs))
      by true none rest = (none refl, rest)
      by false none rest = rest
