-- One list of the frames that begin on an inbound link, for the whole of a run.
use Rattle.std.proofs.Common.{◌≡◌, inl, inr, ⊎_elim, ℕ, List, [], ◌∷◌, ◌++◌, refl, ap, sym, ◌∙◌, subst}
use Rattle.std.proofs.lemmas.Bool.{false≢true}
use Rattle.std.proofs.lemmas.List.{append_assoc, append-nil}
use Rattle.hb_frames.specs.RawFrame.{RawFrame}
use Rattle.hb_inbound.specs.Inbound.{no_link}
use Rattle.hb_inbound.specs.Part.{Part}
use Rattle.hb_inbound.specs.Runs.{Local}
use Rattle.hb_model.proofs.Grown.{one_more}
use Rattle.hb_model.specs.declared.config.NodeConfig.{NodeConfig}
use Rattle.hb_proxy.proofs.Places.{place_of}
use Rattle.hb_proxy.proofs.Projection.{links_run}
use Rattle.hb_proxy.specs.Held.{at_start}
use Rattle.hb_proxy.specs.Machine.{Machine, local}
use Rattle.hb_proxy.specs.Points.{Point, part_in, parts_of}
use Rattle.hb_proxy.specs.Runs.{Steps, StandsFor, begins, goes_on}
use Rattle.hb_headline.proofs.LinkSteps.{LinkGoes, link_goes}
use Rattle.hb_headline.proofs.OneLink.{IsOne, begun_with, next}

-- the frames that begin on a link with the parts that a point makes of it
abbrev pub begun_by_parts : Local → List Part → List RawFrame
begun_by_parts a [] = []
begun_by_parts a (p ∷ ps) = begun_with a p

abbrev pub new_on : ℕ → Machine → Point → List RawFrame
new_on l x q = begun_by_parts (local x l) (part_in l q)

-- at a point of a run these of the frames have begun, and these begin with it
pub record PlaceIs (g : NodeConfig) (l : ℕ) (frames : List RawFrame) (front : List Point) (q : Point) : Type 0 where
  pub machine : Machine
  pub made : Machine
  pub run : StandsFor g machine front
  pub steps : Steps g machine q made
  pub old : List RawFrame
  pub one : IsOne (parts_of l front) (machine.inbound l) old
  pub later : List RawFrame
  pub is : frames ≡ (old ++ new_on l machine q) ++ later

-- so it is at each point of it
pub record AllBegin (g : NodeConfig) (l : ℕ) (points : List Point) (x : Machine) : Type 0 where
  pub frames : List RawFrame
  pub one : IsOne (parts_of l points) (x.inbound l) frames
  pub places : (front : List Point) (q : Point) (rest : List Point) → points ≡ front ++ q ∷ rest → PlaceIs g l frames front q

-- nothing has begun yet
none_yet : IsOne [] no_link []
none_yet = record {
  shows = refl;
  ends = inl refl;
  sends = λ s. record {
    follows = record { rest = []; front = refl; goes = λ on. refl; unused = λ above. (refl, refl) };
    early = λ early. (refl, refl);
    counts = refl;
    ended = λ ends. absurd (false≢true ends);
  };
}

no_place : {A : Type 0} (front : List A) (q : A) (rest : List A) → [] ≡ front ++ q ∷ rest → ⊥
no_place [] q rest is = cc
no_place (p ∷ front) q rest is = cc

module _ (g : NodeConfig) (l : ℕ) where
  -- with one point more
  one_on : (x y : Machine) (points : List Point) (q : Point) → StandsFor g x points → LinkGoes l x q y → (frames : List RawFrame)
      → IsOne (parts_of l points) (x.inbound l) frames
      → IsOne (parts_of l (points ++ q ∷ [])) (y.inbound l) (frames ++ new_on l x q)
  one_on x y points q stands (inl none) frames one =
      subst (λ (ps : List Part). IsOne ps (y.inbound l) (frames ++ new_on l x q))
      (sym (one_more (part_in l) points q ∙ ap (λ (ps : List Part). parts_of l points ++ ps) none.0 ∙ append-nil (parts_of l points)))
      (subst (λ (a : Local). IsOne (parts_of l points) a.link (frames ++ new_on l x q)) (sym none.1)
      (subst (IsOne (parts_of l points) (x.inbound l))
      (sym (ap (λ (ps : List Part). frames ++ begun_by_parts (local x l) ps) none.0 ∙ append-nil frames)) one))
  one_on x y points q stands (inr by_part) frames one =
      subst (λ (ps : List Part). IsOne ps (y.inbound l) (frames ++ new_on l x q))
      (sym (one_more (part_in l) points q ∙ ap (λ (ps : List Part). parts_of l points ++ ps) by_part.part_is))
      (subst (λ (ps : List Part). IsOne (parts_of l points ++ by_part.p ∷ []) (y.inbound l) (frames ++ begun_by_parts (local x l) ps))
      (sym by_part.part_is)
      (next l (at_start g) (local x l) (parts_of l points) (links_run g x points l stands) frames one by_part.p (local y l)
      by_part.steps))

  -- what is at a place stays so with frames that begin later
  place_on : (frames more : List RawFrame) (front : List Point) (q : Point) → PlaceIs g l frames front q
      → PlaceIs g l (frames ++ more) front q
  place_on frames more front q place = record {
    machine = place.machine;
    made = place.made;
    run = place.run;
    steps = place.steps;
    old = place.old;
    one = place.one;
    later = place.later ++ more;
    is = ap (λ (fs : List RawFrame). fs ++ more) place.is ∙ append_assoc (place.old ++ new_on l place.machine q) place.later more;
  }

  last_place : (x y : Machine) (points : List Point) (q : Point) → StandsFor g x points → Steps g x q y → (frames : List RawFrame)
      → IsOne (parts_of l points) (x.inbound l) frames → PlaceIs g l (frames ++ new_on l x q) points q
  last_place x y points q stands steps frames one = record {
    machine = x;
    made = y;
    run = stands;
    steps = steps;
    old = frames;
    one = one;
    later = [];
    is = sym (append-nil (frames ++ new_on l x q));
  }

  pub all_begin : (x : Machine) (points : List Point) → StandsFor g x points → AllBegin g l points x
  all_begin x points (begins is none) = record {
    frames = [];
    one = subst (λ (ps : List Point). IsOne (parts_of l ps) (x.inbound l) []) (sym none)
        (subst (λ (m : Machine). IsOne [] (m.inbound l) []) (sym is) none_yet);
    places = λ front q rest are. absurd (no_place front q rest (sym none ∙ are));
  }
  all_begin y more (goes_on {x = x} {points = points} stands q steps are) =
      let was = all_begin x points stands in
      record {
        frames = was.frames ++ new_on l x q;
        one = subst (λ (ps : List Point). IsOne (parts_of l ps) (y.inbound l) (was.frames ++ new_on l x q)) (sym are)
            (one_on x y points q stands (link_goes g x l q y steps) was.frames was.one);
        places = λ front p rest is.
            ⊎_elim
            (λ (last : (front ≡ points) × (p ≡ q)).
            subst (λ (ps : List Point). PlaceIs g l (was.frames ++ new_on l x q) ps p) (sym last.0)
            (subst (λ (r : Point). PlaceIs g l (was.frames ++ new_on l x q) points r) (sym last.1)
            (last_place x y points q stands steps was.frames was.one)))
            (λ (early : (between : List Point) × (points ≡ front ++ p ∷ between)).
            place_on was.frames (new_on l x q) front p (was.places front p early.0 early.1))
            (place_of points q front p rest (sym are ∙ is));
      }
