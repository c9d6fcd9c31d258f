-- What parts say once one more stands at their end, and the places of a run.
use Rattle.std.proofs.Common.{◌≡◌, ◌⊎◌, inl, inr, ⊎_elim, ℕ, List, [], ◌∷◌, ◌++◌, fold, refl, ap, sym, ◌∙◌, subst}
use Rattle.std.specs.List.{flat_map}
use Rattle.std.proofs.lemmas.List.{append-nil, append_assoc}
use Rattle.std.proofs.lemmas.Grind.{flat_map-append, fold-append}
use Rattle.hb_history.specs.Points as history
use Rattle.hb_gateway.specs.Gateway.{Gateway}
use Rattle.hb_gateway.specs.Part.{Part, moves_in, moves_from, moves, left_by, left_of, AtEach}
use Rattle.hb_gateway.specs.Runs.{Steps, StandsFor, begins, goes_on}

pub one_more : {X A : Type 0} (f : X → List A) (xs : List X) (x : X) → flat_map f (xs ++ x ∷ []) ≡ flat_map f xs ++ f x
one_more f xs x = flat_map-append f xs (x ∷ []) ∙ ap (λ ys. flat_map f xs ++ ys) (append-nil (f x))

-- one that adds nothing
pub none_more : {X A : Type 0} (f : X → List A) (xs : List X) (x : X) → f x ≡ [] → flat_map f (xs ++ x ∷ []) ≡ flat_map f xs
none_more f xs x none = one_more f xs x ∙ ap (λ ys. flat_map f xs ++ ys) none ∙ append-nil (flat_map f xs)

pub fold_one : {A B : Type 0} (f : B → A → B) (b : B) (xs : List A) (x : A) → fold f b (xs ++ x ∷ []) ≡ f (fold f b xs) x
fold_one f b xs x = fold-append f b xs (x ∷ [])

moves_more : (left : ℕ) (parts : List Part) (p : Part)
    → moves_from left (parts ++ p ∷ []) ≡ moves_from left parts ++ moves_in (fold left_by left parts) p
moves_more left [] p = append-nil (moves_in left p)
moves_more left (q ∷ qs) p =
    ap (λ (ps : List history.Point). moves_in left q ++ ps) (moves_more (left_by left q) qs p)
    ∙ sym (append_assoc (moves_in left q) (moves_from (left_by left q) qs) (moves_in (fold left_by (left_by left q) qs) p))

pub more_moves : (parts : List Part) (p : Part) → moves (parts ++ p ∷ []) ≡ moves parts ++ moves_in (left_of parts) p
more_moves parts p = moves_more 0 parts p

-- a place of a longer run is its end, or a place of the run
pub Place : List Part → Part → List Part → Part → List Part → Type 0
Place xs p before x after = ((before ≡ xs) × (x ≡ p)) ⊎ ((more : List Part) × (xs ≡ before ++ x ∷ more))

pub place_of : (xs : List Part) (p : Part) (before : List Part) (x : Part) (after : List Part)
    → xs ++ p ∷ [] ≡ before ++ x ∷ after → Place xs p before x after
unfolding Place
place_of [] p [] x after is = inl (refl, cc)
place_of [] p (b ∷ []) x after is = absurd (cc)
place_of [] p (b ∷ c ∷ bs) x after is = absurd (cc)
place_of (t ∷ ts) p [] x after is = inr (ts, cc)
place_of (t ∷ ts) p (b ∷ bs) x after is =
    ⊎_elim (λ h. inl (let same : bs ≡ ts = h.0 in cc, h.1)) (λ h. inr (h.0, let same : ts ≡ bs ++ x ∷ h.0 = h.1 in cc))
    (place_of ts p bs x after (cc))

-- what holds of each run and of the part that comes next holds at each place of a run
pub at_parts : (g : ℕ) (P : List Part → Part → Type 0)
    → ((x y : Gateway) (before : List Part) (p : Part) → StandsFor g x before → Steps g x p y → P before p)
    → (x : Gateway) (parts : List Part) → StandsFor g x parts → AtEach P parts
unfolding Place
at_parts g P next x parts (begins is none) before p after are = absurd (no_place before p after (sym none ∙ are))
  where
    no_place : (before : List Part) (p : Part) (after : List Part) → [] ≡ before ++ p ∷ after → ⊥
    no_place [] p after is = cc
    no_place (q ∷ ps) p after is = cc
at_parts g P next y more (goes_on {x = x} {parts = parts} stands p steps are) before q after is =
    ⊎_elim (λ h. subst (λ (ps : List Part). P ps q) (sym h.0)
    (subst (λ (r : Part). P parts r) (sym h.1) (next x y parts p stands steps)))
    (λ h. at_parts g P next x parts stands before q h.0 h.1)
    (place_of parts p before q after (sym are ∙ is))
