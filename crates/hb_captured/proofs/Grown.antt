-- What parts say once one more stands at their end, and the places of a run.
use Rattle.std.proofs.Common.{◌≡◌, ◌⊎◌, inl, inr, ⊎_elim, ℕ, List, [], ◌∷◌, ◌++◌, fold, refl, ap, sym, ◌∙◌, subst}
use Rattle.std.specs.List.{flat_map}
use Rattle.std.proofs.lemmas.List.{append-nil}
use Rattle.std.proofs.lemmas.Grind.{flat_map-append, fold-append}
use Rattle.hb_held.specs.Held.{Resources}
use Rattle.hb_captured.specs.Part.{Part}
use Rattle.hb_captured.specs.Runs.{Local, MayGo, StandsFor, begins, goes_on}
use Rattle.hb_captured.specs.Sides.{AtEach}

pub one_more : {X A : Type 0} (f : X → List A) (xs : List X) (x : X) → flat_map f (xs ++ x ∷ []) ≡ flat_map f xs ++ f x
one_more f xs x = flat_map-append f xs (x ∷ []) ∙ ap (λ ys. flat_map f xs ++ ys) (append-nil (f x))

pub fold_one : {A B : Type 0} (f : B → A → B) (b : B) (xs : List A) (x : A) → fold f b (xs ++ x ∷ []) ≡ f (fold f b xs) x
fold_one f b xs x = fold-append f b xs (x ∷ [])

-- a place of a longer run is its end, or a place of the run
pub Place : List Part → Part → List Part → Part → List Part → Type 0
Place xs p before x after = ((before ≡ xs) × (x ≡ p)) ⊎ ((more : List Part) × (xs ≡ before ++ x ∷ more))

pub place_of : (xs : List Part) (p : Part) (before : List Part) (x : Part) (after : List Part)
    → xs ++ p ∷ [] ≡ before ++ x ∷ after → Place xs p before x after
unfolding Place
place_of [] p [] x after is = inl (refl, cc)
place_of [] p (b ∷ []) x after is = absurd (cc)
place_of [] p (b ∷ c ∷ bs) x after is = absurd (cc)
place_of (t ∷ ts) p [] x after is = inr (ts, cc)
place_of (t ∷ ts) p (b ∷ bs) x after is =
    ⊎_elim (λ h. inl (let same : bs ≡ ts = h.0 in cc, h.1)) (λ h. inr (h.0, let same : ts ≡ bs ++ x ∷ h.0 = h.1 in cc))
    (place_of ts p bs x after (cc))

-- what holds of each run and of the part that may come next holds at each place of a run
pub at_parts : (l : ℕ) (start : Resources) (P : List Part → Part → Type 0)
    → ((a : Local) (before : List Part) (p : Part) → StandsFor l start a before → MayGo l a p → P before p)
    → (a : Local) (parts : List Part) → StandsFor l start a parts → AtEach P parts
unfolding Place
at_parts l start P next a parts (begins is none) before p after are = absurd (no_place before p after (sym none ∙ are))
  where
    no_place : (before : List Part) (p : Part) (after : List Part) → [] ≡ before ++ p ∷ after → ⊥
    no_place [] p after is = cc
    no_place (q ∷ ps) p after is = cc
at_parts l start P next b more (goes_on {a = a} {parts = parts} stands p steps are) before q after is =
    ⊎_elim (λ h. subst (λ (ps : List Part). P ps q) (sym h.0)
    (subst (λ (x : Part). P parts x) (sym h.1) (next a parts p stands steps.0)))
    (λ h. at_parts l start P next a parts stands before q h.0 h.1)
    (place_of parts p before q after (sym are ∙ is))
