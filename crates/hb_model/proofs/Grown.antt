-- What points say once one more stands at their end, and links of which one changes.
use Rattle.std.proofs.Common.{◌≡◌, ℕ, ◌==◌, false, if◌then◌else◌, List, [], ◌∷◌, ◌++◌, fold, ap, sym, ◌∙◌, subst}
use Rattle.std.specs.List.{flat_map}
use Rattle.std.proofs.lemmas.Bool.{cond_both, eqb-true, false_from_ne_true}
use Rattle.std.proofs.lemmas.List.{append_assoc, append-nil}
use Rattle.std.proofs.lemmas.Grind.{flat_map-append}
use Rattle.hb_held.specs.Held.{Resources}
use Rattle.hb_model.specs.declared.config.NodeConfig.{NodeConfig}
use Rattle.hb_model.specs.Discovery.{Discovery, Phase, unborn}
use Rattle.hb_model.specs.Point.{Point, entry_in, entries, moves_in, moves, data_in}
use Rattle.hb_model.specs.Messages.{data_came, held_by}
use Rattle.hb_model.specs.Requests.{request_in, requests_from}

pub one_more : {X A : Type 0} (f : X → List A) (xs : List X) (x : X) → flat_map f (xs ++ x ∷ []) ≡ flat_map f xs ++ f x
one_more f xs x = flat_map-append f xs (x ∷ []) ∙ ap (λ ys. flat_map f xs ++ ys) (append-nil (f x))

-- what is said of the entries of a point is added to what is said of those before it
pub entries_more : {A : Type 0} (f : _ → List A) (points : List Point) (p : Point)
    → flat_map f (entries (points ++ p ∷ [])) ≡ flat_map f (entries points) ++ flat_map f (entry_in p)
entries_more f points p = ap (flat_map f) (one_more entry_in points p) ∙ flat_map-append f (entries points) (entry_in p)

pub data_more : (l : ℕ) (points : List Point) (p : Point)
    → data_came l (points ++ p ∷ []) ≡ data_came l points ++ flat_map data_in (moves_in l p)
data_more l points p = ap (flat_map data_in) (one_more (moves_in l) points p) ∙ flat_map-append data_in (moves l points) (moves_in l p)

pub requests_more : (g : NodeConfig) (held : Resources) (l : ℕ) (points : List Point) (p : Point)
    → requests_from g held l (points ++ p ∷ []) ≡ requests_from g held l points ++ request_in g (fold held_by held points) l p
requests_more g held l [] p = append-nil (request_in g held l p)
requests_more g held l (q ∷ points) p =
    ap (λ ms. request_in g held l q ++ ms) (requests_more g (held_by held q) l points p)
    ∙ sym (append_assoc (request_in g held l q) (requests_from g (held_by held q) l points) _)

-- what holds of a link that changes, and of the others as they were, holds of all
pub of_all : (P : ℕ → Discovery → Type 0) (k : ℕ) (new old : ℕ → Discovery) → P k (new k)
    → ((l : ℕ) → (k == l) ≡ false → P l (old l)) → (l : ℕ) → P l (if k == l then new l else old l)
of_all P k new old here others l =
    cond_both (k == l) (new l) (old l) (P l) (λ is. subst (λ j. P j (new j)) (eqb-true k l is) here) (others l)

-- a link in another phase than the first is another link than one that isn't born
abbrev pub IsBorn : Phase → Type 0
IsBorn unborn = ⊥
IsBorn _ = Unit {0}

pub apart : (links : ℕ → Discovery) (k l : ℕ) → (links l).phase ≡ unborn → IsBorn (links k).phase → (k == l) ≡ false
apart links k l none born =
    false_from_ne_true (k == l) (λ is. subst IsBorn (ap (λ j. (links j).phase) (eqb-true k l is) ∙ none) born)
