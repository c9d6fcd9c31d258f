-- The places of a run of the whole, and those of its parts.
use Rattle.std.proofs.Common.{◌≡◌, ◌⊎◌, inl, inr, ⊎_elim, ℕ, ◌==◌, true, cond, List, [], ◌∷◌, ◌++◌, refl, ap, ap₂, sym, ◌∙◌, subst, arith}
use Rattle.std.proofs.lemmas.Grind.{flat_map-append}
use Rattle.std.specs.List.{flat_map}
use Rattle.hb_captured.specs.Part as captured
use Rattle.hb_captured.specs.Sides as plain
use Rattle.hb_gateway.specs.Part as gateway
use Rattle.hb_inbound.specs.Part as part
use Rattle.hb_inbound.specs.Part.{Part}
use Rattle.hb_inbound.specs.Sides as inbound
use Rattle.hb_model.specs.Point as point
use Rattle.hb_model.specs.declared.config.NodeConfig.{NodeConfig}
use Rattle.hb_world.specs.Trace as world
use Rattle.hb_world.specs.declared.entry.Entry.{Entry}
use Rattle.hb_proxy.specs.Machine.{Machine}
use Rattle.hb_proxy.specs.Owners.{AtEach}
use Rattle.hb_proxy.specs.Points.{Point, of_control, of_link, of_plain, of_gate, of_stream, entry_in, entries, control_in, part_in, parts_of, plain_in, plain_of}
use Rattle.hb_proxy.specs.Runs.{BirthMayCome, ControlRests, Steps, StandsFor, begins, goes_on}
use Rattle.hb_proxy.specs.Sides.{AtParts, AtPlain}

-- a place of a longer list is its end, or a place of the list
pub place_of : (xs : List Point) (p : Point) (before : List Point) (x : Point) (behind : List Point) → xs ++ p ∷ [] ≡ before ++ x ∷ behind
    → ((before ≡ xs) × (x ≡ p)) ⊎ ((more : List Point) × (xs ≡ before ++ x ∷ more))
place_of [] p [] x behind is = inl (refl, cc)
place_of [] p (b ∷ []) x behind is = absurd (cc)
place_of [] p (b ∷ c ∷ bs) x behind is = absurd (cc)
place_of (t ∷ ts) p [] x behind is = inr (ts, cc)
place_of (t ∷ ts) p (b ∷ bs) x behind is =
    ⊎_elim (λ h. inl (let same : bs ≡ ts = h.0 in cc, h.1)) (λ h. inr (h.0, let same : ts ≡ bs ++ x ∷ h.0 = h.1 in cc))
    (place_of ts p bs x behind (cc))

-- what holds of each run and of the point that comes next holds at each place of a run
pub at_points : (g : NodeConfig) (P : List Point → Point → Type 0)
    → ((x y : Machine) (before : List Point) (p : Point) → StandsFor g x before → Steps g x p y → P before p)
    → (x : Machine) (points : List Point) → StandsFor g x points → AtEach P points
at_points g P next x points (begins is none) before p behind are = absurd (no_place before p behind (sym none ∙ are))
  where
    no_place : (before : List Point) (p : Point) (behind : List Point) → [] ≡ before ++ p ∷ behind → ⊥
    no_place [] p behind is = cc
    no_place (q ∷ ps) p behind is = cc
at_points g P next y more (goes_on {x = x} {points = points} stands p steps are) before q behind is =
    ⊎_elim (λ h. subst (λ (ps : List Point). P ps q) (sym h.0)
    (subst (λ (z : Point). P points z) (sym h.1) (next x y points p stands steps)))
    (λ h. at_points g P next x points stands before q h.0 h.1)
    (place_of points p before q behind (sym are ∙ is))

-- A PART'S PLACES

-- a law of what points tell of a part is one at each point that tells it
at_told : {A : Type 0} (told : Point → List A) (P : List A → A → Type 0) (points before : List Point) (q : Point) (a : A)
    (behind : List Point) → told q ≡ a ∷ [] → points ≡ before ++ q ∷ behind
    → ((front : List A) (b : A) (rest : List A) → flat_map told points ≡ front ++ b ∷ rest → P front b) → P (flat_map told before) a
at_told told P points before q a behind is are each =
    each (flat_map told before) a (flat_map told behind)
    (ap (flat_map told) are ∙ flat_map-append told before (q ∷ behind)
    ∙ ap (λ bs. flat_map told before ++ (bs ++ flat_map told behind)) is)

itself : (l : ℕ) → (l == l) ≡ true
itself l = grind arith

part_at : (l : ℕ) (p : Part) → part_in l (of_link l p) ≡ p ∷ []
part_at l p = ap (λ b. cond b (p ∷ []) []) (itself l)

plain_at : (l : ℕ) (p : captured.Part) → plain_in l (of_plain l p) ≡ p ∷ []
plain_at l p = ap (λ b. cond b (p ∷ []) []) (itself l)

-- a law of a link's parts is one at each of its parts in the run
pub at_parts : (P : ℕ → List Part → Part → Type 0) (points : List Point) → ((l : ℕ) → inbound.AtEach (P l) (parts_of l points))
    → AtParts (λ before l p. P l (parts_of l before) p) points
at_parts P points each before l p behind are =
    at_told (part_in l) (P l) points before (of_link l p) p behind (part_at l p) are (each l)

pub at_plain : (P : ℕ → List captured.Part → captured.Part → Type 0) (points : List Point)
    → ((l : ℕ) → plain.AtEach (P l) (plain_of l points)) → AtPlain (λ before l p. P l (plain_of l before) p) points
at_plain P points each before l p behind are =
    at_told (plain_in l) (P l) points before (of_plain l p) p behind (plain_at l p) are (each l)

-- and a law of the parts of a run with one more is one at that
pub at_last : (P : List Part → Part → Type 0) (before : List Point) (l : ℕ) (p : Part)
    → inbound.AtEach P (parts_of l (before ++ of_link l p ∷ [])) → P (parts_of l before) p
at_last P before l p each =
    at_told (part_in l) P (before ++ of_link l p ∷ []) before (of_link l p) p [] (part_at l p) refl each

pub at_last_plain : (P : List captured.Part → captured.Part → Type 0) (before : List Point) (l : ℕ) (p : captured.Part)
    → plain.AtEach P (plain_of l (before ++ of_plain l p ∷ [])) → P (plain_of l before) p
at_last_plain P before l p each =
    at_told (plain_in l) P (before ++ of_plain l p ∷ []) before (of_plain l p) p [] (plain_at l p) refl each

-- THE TRACE'S PLACES

-- a point has one entry, or none
pub short : (p : Point) → (entry_in p ≡ []) ⊎ ((z : Entry) × (entry_in p ≡ z ∷ []))
short (of_control (point.entry z)) = inr (z, refl)
short (of_control _) = inl refl
short (of_link l (part.entry z)) = inr (z, refl)
short (of_link l (part.up s z)) = inr (z, refl)
short (of_link l _) = inl refl
short (of_plain l (captured.entry z)) = inr (z, refl)
short (of_plain l (captured.up z)) = inr (z, refl)
short (of_plain l _) = inl refl
short (of_gate g (gateway.entry z)) = inr (z, refl)
short (of_gate g (gateway.dialled z key)) = inr (z, refl)
short (of_gate g _) = inl refl
short (of_stream l g s w) = inl refl

-- a place of a trace is a point's place
record Split (points : List Point) (before : List Entry) (z : Entry) : Type 0 where
  front : List Point
  p : Point
  rest : List Point
  points_are : points ≡ front ++ p ∷ rest
  is : entry_in p ≡ z ∷ []
  before_is : entries front ≡ before

behind_one : (q : Point) (points : List Point) (before told : List Entry) (z : Entry) → entry_in q ≡ told → Split points before z
    → Split (q ∷ points) (told ++ before) z
behind_one q points before told z is h = record {
  front = q ∷ h.front;
  p = h.p;
  rest = h.rest;
  points_are = ap (λ (ps : List Point). q ∷ ps) h.points_are;
  is = h.is;
  before_is = ap₂ (λ (xs ys : List Entry). xs ++ ys) is h.before_is;
}

split : (points : List Point) (before : List Entry) (z : Entry) (after : List Entry) → entries points ≡ before ++ z ∷ after
    → Split points before z
split [] [] z after is = absurd cc
split [] (b ∷ before) z after is = absurd cc
split (q ∷ points) before z after is = by (short q) (λ front same. split points front z after same)
  where
    one : (x : Entry) → entry_in q ≡ x ∷ [] → (front : List Entry) → x ∷ entries points ≡ front ++ z ∷ after
        → ((front : List Entry) → entries points ≡ front ++ z ∷ after → Split points front z) → Split (q ∷ points) front z
    one x told [] same again =
        record {
          front = [];
          p = q;
          rest = points;
          points_are = refl;
          is = told ∙ (let first : x ≡ z = cc in ap (λ (y : Entry). y ∷ []) first);
          before_is = refl;
        }
    one x told (b ∷ front) same again =
        let first : x ≡ b = cc in
        let others : entries points ≡ front ++ z ∷ after = cc in
        subst (λ (y : Entry). Split (q ∷ points) (y ∷ front) z) first
        (behind_one q points front (x ∷ []) z told (again front others))

    by : (entry_in q ≡ []) ⊎ ((x : Entry) × (entry_in q ≡ x ∷ []))
        → ((front : List Entry) → entries points ≡ front ++ z ∷ after → Split points front z) → Split (q ∷ points) before z
    by (inl none) again =
        behind_one q points before [] z none (again before (sym (ap (λ (es : List Entry). es ++ entries points) none) ∙ is))
    by (inr (x, told)) again = one x told before (sym (ap (λ (es : List Entry). es ++ entries points) told) ∙ is) again

-- what holds of the traces before entries is a law of the trace
pub at_trace : (P : List Entry → Entry → Type 0) (points : List Point)
    → AtEach (λ before p. (z : Entry) → entry_in p ≡ z ∷ [] → P (entries before) z) points → world.AtEach P (entries points)
at_trace P points each before z after is =
    let h = split points before z after is in
    subst (λ (es : List Entry). P es z) h.before_is (each h.front h.p h.rest h.points_are z h.is)

-- the guard of an entry says which number a birth has
pub birth_of : (g : NodeConfig) (x y : Machine) (p : Point) → Steps g x p y → (z : Entry) → entry_in p ≡ z ∷ [] → BirthMayCome x z
birth_of g x y (of_control (point.entry en)) steps z is = (let same : en ≡ z = cc in subst (BirthMayCome x) same steps.2.birth)
birth_of g x y (of_link l (part.entry en)) steps z is = (let same : en ≡ z = cc in subst (BirthMayCome x) same steps.2.birth)
birth_of g x y (of_link l (part.up s en)) steps z is = (let same : en ≡ z = cc in subst (BirthMayCome x) same steps.2.birth)
birth_of g x y (of_plain l (captured.entry en)) steps z is = (let same : en ≡ z = cc in subst (BirthMayCome x) same steps.1.birth)
birth_of g x y (of_plain l (captured.up en)) steps z is = (let same : en ≡ z = cc in subst (BirthMayCome x) same steps.1.0.birth)
birth_of g x y (of_gate n (gateway.entry en)) steps z is = (let same : en ≡ z = cc in subst (BirthMayCome x) same steps.2.birth)
birth_of g x y (of_gate n (gateway.dialled en key)) steps z is = (let same : en ≡ z = cc in subst (BirthMayCome x) same steps.2.0.birth)
birth_of g x y (of_control _) steps z is = absurd cc
birth_of g x y (of_link l _) steps z is = absurd cc
birth_of g x y (of_plain l _) steps z is = absurd cc
birth_of g x y (of_gate n _) steps z is = absurd cc
birth_of g x y (of_stream l n s w) steps z is = absurd cc

-- no call of the control plane is due where an entry of another part stands
pub rests_of : (g : NodeConfig) (x y : Machine) (p : Point) → Steps g x p y → control_in p ≡ [] → (z : Entry) → entry_in p ≡ z ∷ []
    → ControlRests x.control
rests_of g x y (of_control q) steps none z is = absurd cc
rests_of g x y (of_link l (part.entry en)) steps none z is = steps.2.control
rests_of g x y (of_link l (part.up s en)) steps none z is = steps.2.control
rests_of g x y (of_plain l (captured.entry en)) steps none z is = steps.1.control
rests_of g x y (of_plain l (captured.up en)) steps none z is = steps.1.0.control
rests_of g x y (of_gate n (gateway.entry en)) steps none z is = steps.2.control
rests_of g x y (of_gate n (gateway.dialled en key)) steps none z is = steps.2.0.control
rests_of g x y (of_link l _) steps none z is = absurd cc
rests_of g x y (of_plain l _) steps none z is = absurd cc
rests_of g x y (of_gate n _) steps none z is = absurd cc
rests_of g x y (of_stream l n s w) steps none z is = absurd cc
