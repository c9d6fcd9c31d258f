-- Where an entry of a trace stands among the points of a run, and whose the point there is.
use Rattle.std.proofs.Common.{◌≡◌, ℕ, Bool, true, false, List, [], ◌∷◌, ◌++◌, Option, Some, None, IfSome, refl, ap, ap₂, sym, ◌∙◌, subst}
use Rattle.std.proofs.lemmas.Bool.{false≢true}
use Rattle.std.proofs.lemmas.List.{append_assoc}
use Rattle.std.proofs.lemmas.List.Concat.{flat_map-append}
use Rattle.hb_base.specs.declared.door.Why.{Why}
use Rattle.hb_base.specs.declared.door.Why.TheVariants as whys
use Rattle.hb_base.specs.declared.target.Target.{Target}
use Rattle.hb_base.specs.declared.door.Door.{Door}
use Rattle.hb_captured.specs.Answer.{Aim, straight_to, through, key_of, why_at, why_for}
use Rattle.hb_captured.specs.Part as captured
use Rattle.hb_captured.specs.Runs.{MayCome, UpMayCome}
use Rattle.hb_gateway.specs.Gateway.{Gateway}
use Rattle.hb_gateway.specs.Key.{Key}
use Rattle.hb_gateway.specs.Part as gateway
use Rattle.hb_gateway.specs.Runs as gateway_runs
use Rattle.hb_gateway.specs.Runs.{IsBirth}
use Rattle.hb_inbound.specs.Part as part
use Rattle.hb_model.specs.Point as point
use Rattle.hb_model.specs.declared.config.NodeConfig.{NodeConfig}
use Rattle.hb_world.specs.declared.entry.Entry.{Entry}
use Rattle.hb_world.specs.declared.entry.Entry.TheVariants as e
use Rattle.hb_proxy.specs.Machine.{Machine}
use Rattle.hb_proxy.specs.Owners.{Owner, nobody, control_plane, inbound_link, upstream_of, plain_link, relay_of, gateway_link, dialled_for, link_of, owner, OwnAt, AtEach}
use Rattle.hb_proxy.specs.Points.{Point, of_control, of_link, of_plain, of_gate, of_stream, entry_in, entries, control_in, control_of}
use Rattle.hb_proxy.specs.Runs.{Steps}
use Rattle.hb_proxy.proofs.PlainDoors.{relayed}
use Rattle.hb_proxy.proofs.Places.{at_trace}

-- a place of a trace is the place of a point
pub record Place (points : List Point) (before : List Entry) (z : Entry) : Type 0 where
  pub front : List Point
  pub p : Point
  pub rest : List Point
  pub points_are : points ≡ front ++ p ∷ rest
  pub is : entry_in p ≡ z ∷ []
  pub before_is : entries front ≡ before

pub place : (points : List Point) (before : List Entry) (z : Entry) (after : List Entry) → entries points ≡ before ++ z ∷ after
    → Place points before z
place points =
    at_trace (Place points) points
    (λ front p rest are z is. record { front = front; p = p; rest = rest; points_are = are; is = is; before_is = refl })

-- a place in front of another one is a place of all the points
pub further : (points front more : List Point) (p q : Point) (between rest : List Point) → points ≡ front ++ q ∷ rest
    → front ≡ more ++ p ∷ between → points ≡ more ++ p ∷ (between ++ q ∷ rest)
further points front more p q between rest are front_is =
    are ∙ ap (λ (ps : List Point). ps ++ q ∷ rest) front_is ∙ append_assoc more (p ∷ between) (q ∷ rest)

-- WHOSE THE POINT IS

-- what is said of the link that an entry stands on
on_it : (P : ℕ → Type 0) (en z : Entry) (u : ℕ) → en ≡ z → link_of z ≡ Some u → IfSome (link_of en) P → P u
on_it P en z u same on is = subst (λ (o : Option ℕ). IfSome o P) (ap link_of same ∙ on) is

-- what is told as the dial of a link to a gateway is one, which stands on no link
abbrev pub is_dial : Entry → Bool
is_dial (e.Dialled l to why) = true
is_dial _ = false

abbrev pub DialsOnly : Point → Type 0
DialsOnly (of_gate n (gateway.dialled en key)) = is_dial en ≡ true
DialsOnly _ = Unit {0}

-- each point stands on a link of its own part
pub record IsOwn (before : List Point) (p : Point) : Type 0 where
  pub own : OwnAt before p
  pub dials : DialsOnly p

on_none : (en : Entry) → is_dial en ≡ true → link_of en ≡ None
on_none (e.Dialled l to why) is = refl
on_none (e.Accepted l d) is = absurd (false≢true is)
on_none _ is = absurd (false≢true is)

is_born : (n : ℕ) (x : Gateway) (en : Entry) (key : Key) → IsBirth n x en key → is_dial en ≡ true
is_born n x (e.Dialled l to why) key may = refl
is_born n x _ key may = absurd may

pub is_own : (g : NodeConfig) (x y : Machine) (before : List Point) (p : Point) → Steps g x p y → OwnAt before p → IsOwn before p
is_own g x y before p steps own = record { own = own; dials = by p steps }
  where
    by : (q : Point) → Steps g x q y → DialsOnly q
    by (of_gate n (gateway.dialled en key)) steps = is_born n (x.gates n) en key steps.1.0
    by (of_gate n _) steps = tt
    by (of_control q) steps = tt
    by (of_link l q) steps = tt
    by (of_plain l q) steps = tt
    by (of_stream l n s w) steps = tt

-- the point of an entry on a link of this owner
abbrev pub PointOf : Entry → ℕ → Owner → Point → Type 0
PointOf z u nobody p = ⊥
PointOf z u control_plane p = p ≡ of_control (point.entry z)
PointOf z u inbound_link p = p ≡ of_link u (part.entry z)
PointOf z u (upstream_of l s) p = p ≡ of_link l (part.up s z)
PointOf z u plain_link p = p ≡ of_plain u (captured.entry z)
PointOf z u (relay_of l) p = p ≡ of_plain l (captured.up z)
PointOf z u gateway_link p = p ≡ of_gate u (gateway.entry z)

module _ (front : List Point) (z : Entry) (u : ℕ) (on : link_of z ≡ Some u) where
  abbrev whose : ℕ → Owner
  whose k = owner k (entries front)

  -- it is that of the owner of its link
  of_owner : (p : Point) → IsOwn front p → entry_in p ≡ z ∷ [] → PointOf z u (whose u) p
  of_owner (of_control (point.entry en)) own is =
      let same : en ≡ z = cc in
      subst (λ (o : Owner). PointOf z u o (of_control (point.entry en))) (sym (on_it (λ k. whose k ≡ control_plane) en z u same on own.own))
      (ap (λ (x : Entry). of_control (point.entry x)) same)
  of_owner (of_control _) own is = absurd cc
  of_owner (of_link l (part.entry en)) own is =
      let same : en ≡ z = cc in
      let here = on_it (λ k. (k ≡ l) × (whose k ≡ inbound_link)) en z u same on own.own in
      subst (λ (o : Owner). PointOf z u o (of_link l (part.entry en))) (sym here.1)
      (ap₂ (λ (k : ℕ) (x : Entry). of_link k (part.entry x)) (sym here.0) same)
  of_owner (of_link l (part.up s en)) own is =
      let same : en ≡ z = cc in
      subst (λ (o : Owner). PointOf z u o (of_link l (part.up s en)))
      (sym (on_it (λ k. whose k ≡ upstream_of l s) en z u same on own.own)) (ap (λ (x : Entry). of_link l (part.up s x)) same)
  of_owner (of_link l _) own is = absurd cc
  of_owner (of_plain l (captured.entry en)) own is =
      let same : en ≡ z = cc in
      let here = on_it (λ k. (k ≡ l) × (whose k ≡ plain_link)) en z u same on own.own in
      subst (λ (o : Owner). PointOf z u o (of_plain l (captured.entry en))) (sym here.1)
      (ap₂ (λ (k : ℕ) (x : Entry). of_plain k (captured.entry x)) (sym here.0) same)
  of_owner (of_plain l (captured.up en)) own is =
      let same : en ≡ z = cc in
      subst (λ (o : Owner). PointOf z u o (of_plain l (captured.up en)))
      (sym (on_it (λ k. whose k ≡ relay_of l) en z u same on own.own)) (ap (λ (x : Entry). of_plain l (captured.up x)) same)
  of_owner (of_plain l _) own is = absurd cc
  of_owner (of_gate n (gateway.entry en)) own is =
      let same : en ≡ z = cc in
      let here = on_it (λ k. (k ≡ n) × (whose k ≡ gateway_link)) en z u same on own.own in
      subst (λ (o : Owner). PointOf z u o (of_gate n (gateway.entry en))) (sym here.1)
      (ap₂ (λ (k : ℕ) (x : Entry). of_gate k (gateway.entry x)) (sym here.0) same)
  of_owner (of_gate n (gateway.dialled en key)) own is =
      let same : en ≡ z = cc in absurd (let no : None ≡ Some u = sym (on_none en own.dials) ∙ ap link_of same ∙ on in cc)
  of_owner (of_gate n _) own is = absurd cc
  of_owner (of_stream l n s w) own is = absurd cc

  module _ (p : Point) (own : IsOwn front p) (is : entry_in p ≡ z ∷ []) where
    pub of_whom : (o : Owner) → whose u ≡ o → PointOf z u o p
    of_whom o mine = subst (λ (w : Owner). PointOf z u w p) mine (of_owner p own is)

    -- no entry stands on a link that is nobody's
    pub of_somebody : whose u ≡ nobody → ⊥
    of_somebody none = of_whom nobody none

    -- an entry on a link to the control plane is a point of that; one on an inbound link, or on an upstream, is a part of that link; so
    -- is one on a plain link, or on its upstream
    pub of_plane : whose u ≡ control_plane → p ≡ of_control (point.entry z)
    of_plane mine = of_whom control_plane mine

    pub of_inbound : whose u ≡ inbound_link → p ≡ of_link u (part.entry z)
    of_inbound mine = of_whom inbound_link mine

    pub of_upstream : (l s : ℕ) → whose u ≡ upstream_of l s → p ≡ of_link l (part.up s z)
    of_upstream l s mine = of_whom (upstream_of l s) mine

    pub of_plain_link : whose u ≡ plain_link → p ≡ of_plain u (captured.entry z)
    of_plain_link mine = of_whom plain_link mine

    pub of_relay : (l : ℕ) → whose u ≡ relay_of l → p ≡ of_plain l (captured.up z)
    of_relay l mine = of_whom (relay_of l) mine

    pub of_gateway : whose u ≡ gateway_link → p ≡ of_gate u (gateway.entry z)
    of_gateway mine = of_whom gateway_link mine

-- the point of a dial is that of the part for which it is dialled
abbrev pub DialOf : Entry → ℕ → Owner → Point → Type 0
DialOf z u gateway_link p = (key : Key) × (p ≡ of_gate u (gateway.dialled z key))
DialOf z u nobody p = ⊥
DialOf z u control_plane p = p ≡ of_control (point.entry z)
DialOf z u inbound_link p = p ≡ of_link u (part.entry z)
DialOf z u (upstream_of l s) p = p ≡ of_link l (part.up s z)
DialOf z u plain_link p = p ≡ of_plain u (captured.entry z)
DialOf z u (relay_of l) p = p ≡ of_plain l (captured.up z)

-- a straight one is dialled as its door says
pub straight_why : (aim : Aim) (d : Door) (l : ℕ) → key_of aim ≡ None → why_for aim d l ≡ why_at d l
straight_why (straight_to to endpoint) d l is = refl
straight_why (through key authority endpoint) d l is = (let no : Some key ≡ None = is in absurd cc)

gate_dial : (n u : ℕ) (x : Gateway) (to : Target) (why : Why) (key : Key) → IsBirth n x (e.Dialled u to why) key
    → (n ≡ u) × (dialled_for why ≡ gateway_link)
gate_dial n u x to (whys.Gateway a) key may = (sym may.0, refl)
gate_dial n u x to _ key may = absurd may

pub dial_point : (g : NodeConfig) (x y : Machine) (p : Point) (u : ℕ) (to : Target) (why : Why) → Steps g x p y
    → entry_in p ≡ e.Dialled u to why ∷ [] → DialOf (e.Dialled u to why) u (dialled_for why) p
dial_point g x y (of_control (point.entry en)) u to why steps is =
    let same : en ≡ e.Dialled u to why = cc in
    let for_it : why ≡ whys.Discovery = (subst (λ (z : Entry). Steps g x (of_control (point.entry z)) y) same steps).1.0.3 in
    subst (λ (w : Why). DialOf (e.Dialled u to why) u (dialled_for w) (of_control (point.entry en))) (sym for_it)
    (ap (λ (z : Entry). of_control (point.entry z)) same)
dial_point g x y (of_control _) u to why steps is = absurd cc
dial_point g x y (of_link k (part.entry en)) u to why steps is =
    let same : en ≡ e.Dialled u to why = cc in
    absurd ((subst (λ (z : Entry). Steps g x (of_link k (part.entry z)) y) same steps).1.0)
dial_point g x y (of_link k (part.up t en)) u to why steps is =
    let same : en ≡ e.Dialled u to why = cc in
    let for_it : why ≡ whys.Upstream k t = (subst (λ (z : Entry). Steps g x (of_link k (part.up t z)) y) same steps).1.0.4 in
    subst (λ (w : Why). DialOf (e.Dialled u to why) u (dialled_for w) (of_link k (part.up t en))) (sym for_it)
    (ap (λ (z : Entry). of_link k (part.up t z)) same)
dial_point g x y (of_link k _) u to why steps is = absurd cc
dial_point g x y (of_plain k (captured.entry en)) u to why steps is =
    let same : en ≡ e.Dialled u to why = cc in absurd (subst (MayCome k (x.plain k)) same steps.0)
dial_point g x y (of_plain k (captured.up en)) u to why steps is =
    let same : en ≡ e.Dialled u to why = cc in
    let may = subst (UpMayCome k (x.plain k)) same steps.0 in
    subst (λ (o : Owner). DialOf (e.Dialled u to why) u o (of_plain k (captured.up en)))
    (sym (relayed k (x.plain k) why may.1 may.0.3)) (ap (λ (z : Entry). of_plain k (captured.up z)) same)
dial_point g x y (of_plain k _) u to why steps is = absurd cc
dial_point g x y (of_gate n (gateway.entry en)) u to why steps is =
    let same : en ≡ e.Dialled u to why = cc in absurd (subst (gateway_runs.MayCome n (x.gates n)) same steps.1.0)
dial_point g x y (of_gate n (gateway.dialled en key)) u to why steps is =
    let same : en ≡ e.Dialled u to why = cc in
    let born = gate_dial n u (x.gates n) to why key (subst (λ (z : Entry). IsBirth n (x.gates n) z key) same steps.1.0) in
    subst (λ (o : Owner). DialOf (e.Dialled u to why) u o (of_gate n (gateway.dialled en key))) (sym born.1)
    (key, ap₂ (λ (k : ℕ) (z : Entry). of_gate k (gateway.dialled z key)) born.0 same)
dial_point g x y (of_gate n _) u to why steps is = absurd cc
dial_point g x y (of_stream l n s w) u to why steps is = absurd cc

-- an entry on a link to the control plane, at its place
pub record OnPlane (points : List Point) (before : List Entry) (z : Entry) : Type 0 where
  pub front : List Point
  pub rest : List Point
  pub points_are : points ≡ front ++ of_control (point.entry z) ∷ rest
  pub before_is : entries front ≡ before

pub on_plane : (points : List Point) → AtEach IsOwn points → (before : List Entry) (z : Entry) (after : List Entry)
    → entries points ≡ before ++ z ∷ after → (u : ℕ) → link_of z ≡ Some u → owner u before ≡ control_plane → OnPlane points before z
on_plane points own before z after is u on mine =
    let s = place points before z after is in
    record {
      front = s.front;
      rest = s.rest;
      points_are = subst (λ (p : Point). points ≡ s.front ++ p ∷ s.rest)
          (of_plane s.front z u on s.p (own s.front s.p s.rest s.points_are) s.is (ap (owner u) s.before_is ∙ mine)) s.points_are;
      before_is = s.before_is;
    }

-- what is said of each point's link is said so of a front of the points
pub own_front : (points : List Point) → AtEach IsOwn points → (front : List Point) (q : Point) (rest : List Point)
    → points ≡ front ++ q ∷ rest → AtEach IsOwn front
own_front points own front q rest are before p behind front_is =
    own before p (behind ++ q ∷ rest) (further points front before p q behind rest are front_is)

-- a place of the control plane's points, and of their entries
pub plane_place : (points front rest : List Point) (z : Entry) → points ≡ front ++ of_control (point.entry z) ∷ rest
    → point.entries (control_of points) ≡ point.entries (control_of front) ++ z ∷ point.entries (control_of rest)
plane_place points front rest z are =
    ap point.entries (ap control_of are ∙ flat_map-append control_in front (of_control (point.entry z) ∷ rest))
    ∙ flat_map-append point.entry_in (control_of front) (point.entry z ∷ control_of rest)
