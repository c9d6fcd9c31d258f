-- What a trace tells of a link to the control plane is what that one's points tell.
use Rattle.std.proofs.Common.{◌≡◌, ◌⊎◌, inl, inr, ⊎_elim, ℕ, ◌||◌, Bool, true, false, List, [], ◌∷◌, ◌++◌, Some, refl, ap, ap₂, sym, ◌∙◌, subst}
use Rattle.std.specs.List.{list_any}
use Rattle.std.proofs.lemmas.Bool.{both_ways}
use Rattle.std.proofs.lemmas.List.{append-nil}
use Rattle.std.proofs.lemmas.List.Concat.{flat_map-append}
use Rattle.std.proofs.lemmas.List.Folds.{list_any-append}
use Rattle.hb_captured.specs.Part as captured
use Rattle.hb_gateway.specs.Part as gateway
use Rattle.hb_inbound.specs.Part as part
use Rattle.hb_model.proofs.Grown.{one_more}
use Rattle.hb_model.specs.Point as point
use Rattle.hb_model.specs.declared.config.NodeConfig.{NodeConfig}
use Rattle.hb_world.specs.declared.entry.Entry.{Entry}
use Rattle.hb_proxy.specs.Machine.{Machine}
use Rattle.hb_proxy.specs.Owners.{nobody, control_plane, link_of, owner}
use Rattle.hb_proxy.specs.Points.{Point, of_control, of_link, of_plain, of_gate, of_stream, entry_in, entries, control_in, control_of}
use Rattle.hb_proxy.specs.Runs.{StandsFor, begins, goes_on}
use Rattle.hb_proxy.proofs.Own.{own_at}
use Rattle.hb_proxy.proofs.Owned.{all_owned, owner_grows}
use Rattle.hb_proxy.proofs.Places.{short}
use Rattle.hb_laws.proofs.Places.{IsOwn, is_own, of_plane, of_somebody}
use Rattle.hb_laws.proofs.Tests.{or_behind, or_so}

-- what the control plane's points tell, the trace tells
pub told : (is : Entry → Bool) (points : List Point) → list_any is (point.entries (control_of points)) ≡ true
    → list_any is (entries points) ≡ true
told is [] was = was
told is (of_control q ∷ points) was =
    list_any-append is (point.entry_in q) (entries points)
    ∙ or_so (list_any is (point.entry_in q)) (list_any is (point.entries (control_of points))) (list_any is (point.entry_in q))
    (list_any is (entries points)) (λ here. here) (told is points)
    (sym (list_any-append is (point.entry_in q) (point.entries (control_of points))) ∙ was)
told is (of_link l p ∷ points) was =
    list_any-append is (part.entry_in p) (entries points)
    ∙ or_behind (list_any is (part.entry_in p)) (list_any is (entries points)) (told is points was)
told is (of_plain l p ∷ points) was =
    list_any-append is (captured.entry_in p) (entries points)
    ∙ or_behind (list_any is (captured.entry_in p)) (list_any is (entries points)) (told is points was)
told is (of_gate n p ∷ points) was =
    list_any-append is (gateway.entry_in p) (entries points)
    ∙ or_behind (list_any is (gateway.entry_in p)) (list_any is (entries points)) (told is points was)
told is (of_stream l n s w ∷ points) was = told is points was

pub untold : (is : Entry → Bool) (points : List Point) → list_any is (entries points) ≡ false
    → list_any is (point.entries (control_of points)) ≡ false
untold is points none = by (list_any is (point.entries (control_of points))) refl
  where
    by : (b : Bool) → list_any is (point.entries (control_of points)) ≡ b → list_any is (point.entries (control_of points)) ≡ false
    by true was = absurd (both_ways _ none (told is points was))
    by false was = was

-- OF ONE LINK

module _ (l : ℕ) (is : Entry → Bool) (on : (z : Entry) → is z ≡ true → link_of z ≡ Some l) where
  none_here : (p : Point) → ((z : Entry) → entry_in p ≡ z ∷ [] → is z ≡ true → ⊥) → list_any is (entry_in p) ≡ false
  none_here p none = by (short p)
    where
      by_test : (b : Bool) → (b ≡ true → ⊥) → (b || false) ≡ false
      by_test true not = absurd (not refl)
      by_test false not = refl

      by : (entry_in p ≡ []) ⊎ ((z : Entry) × (entry_in p ≡ z ∷ [])) → list_any is (entry_in p) ≡ false
      by (inl empty) = ap (list_any is) empty
      by (inr (z, told)) = ap (list_any is) told ∙ by_test (is z) (none z told)

  grows : (points : List Point) (p : Point)
      → list_any is (entries (points ++ p ∷ [])) ≡ (list_any is (entries points) || list_any is (entry_in p))
  grows points p = ap (list_any is) (one_more entry_in points p) ∙ list_any-append is (entries points) (entry_in p)

  -- nothing is told of one that is nobody's
  none_told : (g : NodeConfig) (x : Machine) (points : List Point) → StandsFor g x points → owner l (entries points) ≡ nobody
      → list_any is (entries points) ≡ false
  none_told g x points (begins is_fresh none) whose = ap (λ (ps : List Point). list_any is (entries ps)) none
  none_told g y more (goes_on {x = x} {points = points} stands p steps are) whose =
      by (none_told g x points stands)
      (⊎_elim (λ h. h) (λ same. sym same ∙ ap (λ (ps : List Point). owner l (entries ps)) (sym are) ∙ whose)
      (owner_grows g x points stands p y steps l))
    where
      by : (owner l (entries points) ≡ nobody → list_any is (entries points) ≡ false) → owner l (entries points) ≡ nobody
          → list_any is (entries more) ≡ false
      by so_far none =
          ap (λ (ps : List Point). list_any is (entries ps)) are ∙ grows points p
          ∙ ap₂ (λ (a b : Bool). a || b) (so_far none)
          (none_here p
          (λ z at says.
          of_somebody points z l (on z says) p
          (is_own g x y points p steps (own_at g x points (all_owned g x points stands) p y steps)) at none))

  plane_grows : (points : List Point) (p : Point) → list_any is (point.entries (control_of (points ++ p ∷ [])))
      ≡ (list_any is (point.entries (control_of points)) || list_any is (point.entries (control_in p)))
  plane_grows points p =
      ap (λ (qs : List point.Point). list_any is (point.entries qs)) (one_more control_in points p)
      ∙ ap (list_any is) (flat_map-append point.entry_in (control_of points) (control_in p))
      ∙ list_any-append is (point.entries (control_of points)) (point.entries (control_in p))

  -- all that is told of one to the control plane is told by its points
  pub same_told : (g : NodeConfig) (x : Machine) (points : List Point) → StandsFor g x points → owner l (entries points) ≡ control_plane
      → list_any is (point.entries (control_of points)) ≡ list_any is (entries points)
  same_told g x points (begins fresh none) whose =
      absurd (let no : nobody ≡ control_plane = sym (ap (λ (ps : List Point). owner l (entries ps)) none) ∙ whose in cc)
  same_told g y more (goes_on {x = x} {points = points} stands p steps are) whose =
      subst (λ (ps : List Point). list_any is (point.entries (control_of ps)) ≡ list_any is (entries ps)) (sym are)
      (⊎_elim born_here (λ same. more_of (same_told g x points stands) (sym same ∙ mine)) (owner_grows g x points stands p y steps l))
    where
      own : IsOwn points p
      own = is_own g x y points p steps (own_at g x points (all_owned g x points stands) p y steps)

      mine : owner l (entries (points ++ p ∷ [])) ≡ control_plane
      mine = ap (λ (ps : List Point). owner l (entries ps)) (sym are) ∙ whose

      born_here : owner l (entries points) ≡ nobody
          → list_any is (point.entries (control_of (points ++ p ∷ []))) ≡ list_any is (entries (points ++ p ∷ []))
      born_here none =
          let silent = grows points p ∙ ap₂ (λ (a b : Bool). a || b) (none_told g x points stands none)
          (none_here p (λ z at says. of_somebody points z l (on z says) p own at none)) in
          untold is (points ++ p ∷ []) silent ∙ sym silent

      here : (q : Point) → IsOwn points q → owner l (entries points) ≡ control_plane
          → list_any is (point.entries (control_in q)) ≡ list_any is (entry_in q)
      here (of_control q) own whose = ap (list_any is) (append-nil (point.entry_in q))
      here (of_link k r) own whose =
          sym (none_here (of_link k r)
          (λ z at says.
          (let no : of_link k r ≡ of_control (point.entry z) = of_plane points z l (on z says) (of_link k r) own at whose in cc)))
      here (of_plain k r) own whose =
          sym (none_here (of_plain k r)
          (λ z at says.
          (let no : of_plain k r ≡ of_control (point.entry z) = of_plane points z l (on z says) (of_plain k r) own at whose in cc)))
      here (of_gate k r) own whose =
          sym (none_here (of_gate k r)
          (λ z at says.
          (let no : of_gate k r ≡ of_control (point.entry z) = of_plane points z l (on z says) (of_gate k r) own at whose in cc)))
      here (of_stream j k s w) own whose = refl

      more_of : (owner l (entries points) ≡ control_plane → list_any is (point.entries (control_of points)) ≡ list_any is (entries points))
          → owner l (entries points) ≡ control_plane
          → list_any is (point.entries (control_of (points ++ p ∷ []))) ≡ list_any is (entries (points ++ p ∷ []))
      more_of so_far whose =
          plane_grows points p ∙ ap₂ (λ (a b : Bool). a || b) (so_far whose) (here p own whose) ∙ sym (grows points p)
