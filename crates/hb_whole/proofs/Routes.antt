-- Where a link that lives is found in the code: it is the control plane's, an inbound one, a plain one, an upstream, or one to a gateway.
use Rattle.std.proofs.Common.{◌≡◌, inl, inr, ⊎_elim, ℕ, Bool, true, false, List, Option, Some, None, refl, ap, sym, ◌∙◌, subst}
use Rattle.std.proofs.lemmas.Bool.{eqb-true, eq-eqb, cases_eq}
use Rattle.std.specs.FinMap.{get}
use Rattle.hb_base.specs.declared.note.Note.{Note}
use Rattle.hb_captured.specs.Part as plain
use Rattle.hb_gate.specs.declared.gate.Gate.{Gate}
use Rattle.hb_gateway.specs.Part as gate
use Rattle.hb_inbound.specs.Inbound as m
use Rattle.hb_inbound.specs.Inbound.{Inbound}
use Rattle.hb_inbound.specs.Part as part
use Rattle.hb_link.specs.declared.link.Link.{Link}
use Rattle.hb_links.specs.Calls.{point_by, point_for}
use Rattle.hb_links.specs.Places.{place}
use Rattle.hb_links.specs.Shows.{IsAway, ShowsAll, ShowsLink}
use Rattle.hb_links.specs.declared.links.Links.{Links}
use Rattle.hb_links.specs.declared.place.Place.{Place}
use Rattle.hb_model.specs.Discovery as d
use Rattle.hb_model.specs.Machine.{Machine as Control}
use Rattle.hb_model.specs.declared.config.NodeConfig.{NodeConfig}
use Rattle.hb_node.specs.State.{ShowsLink as ShowsControl, IsGone, number_of}
use Rattle.hb_node.specs.declared.link.Link.{Link as ControlLink}
use Rattle.hb_proxy.proofs.Doors.{doors_tell_none}
use Rattle.hb_proxy.proofs.Seen.{runs_are_seen}
use Rattle.hb_proxy.specs.Doors.{without_doors}
use Rattle.hb_proxy.specs.Machine.{Machine, outward}
use Rattle.hb_proxy.specs.Points.{of_link, of_plain, of_gate}
use Rattle.hb_proxy.specs.Seen.{Seen, IsThere, IsLinkThere, IsPlainThere, IsGateThere, HasLink, HasPlain}
use Rattle.hb_proxy.specs.Ups.{Joins, IsRelayOf}
use Rattle.hb_relay.specs.declared.relay.Relay.{Relay}
use Rattle.hb_relays.specs.Calls as relays
use Rattle.hb_relays.specs.Calls.{IsPresent, has_of}
use Rattle.hb_relays.specs.Shows.{ShowsRelays}
use Rattle.hb_relays.specs.declared.relays.Relays.{Relays}
use Rattle.hb_ready.specs.Sight.{is_open}
use Rattle.hb_world.specs.Trace.{lives, was_shut}
use Rattle.hb_world.specs.declared.entry.Entry.{Entry}
use Rattle.hb_whole.specs.Sight.{is_number, owns, owner_by, owner_of}
use Rattle.hb_whole.specs.Stands.{Stands}
use Rattle.hb_whole.specs.declared.owner.Owner.TheVariants.{Control as OfControl, Plain, Inbound as OfInbound}
use Rattle.hb_whole.specs.declared.proxy.Proxy.{Proxy}
use Rattle.hb_whole.proofs.Relays.{is_kept, gate_kept, none_kept, has_some, has_none}

-- THE TRACE

-- what is said of the machine's links is so of the whole trace
pub seen_of : (taken : List Note) (p : Proxy) (trace : List Entry) (s : Stands taken p trace) → Seen s.machine (without_doors trace)
seen_of taken p trace s =
    subst (λ (zs : List Entry). Seen s.machine zs) (sym s.trace_is) (runs_are_seen p.control.config s.machine s.points s.run)

pub lives_then : (trace : List Entry) (l : ℕ) → lives l (without_doors trace) ≡ lives l trace
lives_then trace l = (doors_tell_none trace).lives l

pub open_then : (trace : List Entry) (l : ℕ) → is_open l (without_doors trace) ≡ is_open l trace
open_then trace l = (doors_tell_none trace).is_open l

pub shut_then : (trace : List Entry) (l : ℕ) → was_shut l (without_doors trace) ≡ was_shut l trace
shut_then trace l = (doors_tell_none trace).was_shut l

-- THE CONTROL PLANE

is_gone : (phase : d.Phase) → IsThere phase → IsGone phase → ⊥
is_gone d.unborn there gone = there
is_gone d.closed there gone = there
is_gone d.dialling there gone = gone
is_gone d.live there gone = gone
is_gone (d.faulted code) there gone = gone
is_gone (d.ending why) there gone = gone

pub owned : (o : Option ControlLink) (x : Control) (l : ℕ) → ShowsControl o x → IsThere (x.links l).phase
    → is_number (number_of o) l ≡ true
owned None x l shows there = absurd (is_gone (x.links l).phase there (shows.1 l))
owned (Some k) x l shows there =
    ⊎_elim (λ (same : l ≡ k.number). eq-eqb k.number l (sym same))
    (λ apart. absurd (is_gone (x.links l).phase there (shows.4 l apart))) (cases_eq l k.number)

pub current_is : (o : Option ControlLink) (x : Control) (l : ℕ) → ShowsControl o x → is_number (number_of o) l ≡ true
    → x.current ≡ Some l
current_is None x l shows is = absurd cc
current_is (Some k) x l shows is = shows.0 ∙ ap (λ (j : ℕ). Some j) (eqb-true k.number l is)

by_false : (b : Bool) → (b ≡ true → ⊥) → b ≡ false
by_false true never = absurd (never refl)
by_false false never = refl

-- one that isn't there isn't owned
not_owned : (x : Machine) (zs : List Entry) (o : Option ControlLink) (l : ℕ) → Seen x zs → ShowsControl o x.control
    → (IsThere (x.control.links l).phase → ⊥) → is_number (number_of o) l ≡ false
not_owned x zs o l seen shows none =
    by_false (is_number (number_of o) l) (λ is. none (seen.current l (current_is o x.control l shows is)))

-- THE OTHERS

is_away : (phase : m.Phase) → IsLinkThere phase → IsAway phase → ⊥
is_away m.unborn there away = there
is_away m.closed there away = there
is_away m.arriving there away = away
is_away m.fronting there away = away
is_away m.serving there away = away
is_away (m.faulted code) there away = away
is_away (m.closing why) there away = away

-- an inbound link is kept, and is no upstream
link_kept : (l : ℕ) (o : Option Link) (x : Inbound) → ShowsLink l o x → IsLinkThere x.phase → (k : Link) × (o ≡ Some k)
link_kept l None x shows there = absurd (is_away x.phase there shows.0)
link_kept l (Some k) x shows there = (k, refl)

no_place : (x : Machine) (zs : List Entry) (links : Links) (l : ℕ) (o : Option Place) → Seen x zs → ShowsAll links x.inbound
    → IsLinkThere (x.inbound l).phase → get links.ups l ≡ o → o ≡ None
no_place x zs links l None seen shows there is = refl
no_place x zs links l (Some at) seen shows there is =
    absurd ((seen.up_alone at.link at.stream l (shows.index.joined l at is)).1 there)

link_point : (x : Machine) (zs : List Entry) (links : Links) (l : ℕ) → Seen x zs → ShowsAll links x.inbound
    → IsLinkThere (x.inbound l).phase → (z : Entry) → point_for links l z ≡ Some (of_link l (part.entry z))
link_point x zs links l seen shows there z =
    let kept = link_kept l (get links.links l) (x.inbound l) (shows.links l) there in
    ap (λ (at : Option Place). point_by at (get links.links l) l z) (no_place x zs links l (get links.ups l) seen shows there refl)
    ∙ ap (λ (o : Option Link). point_by None o l z) kept.1

-- an upstream is found by the index
up_point : (x : Machine) (links : Links) (l s u : ℕ) → ShowsAll links x.inbound → Joins ((x.inbound l).tunnels s) u
    → (z : Entry) → point_for links u z ≡ Some (of_link l (part.up s z))
up_point x links l s u shows joins z =
    ap (λ (at : Option Place). point_by at (get links.links u) u z) (shows.index.found l s u joins)

-- LINKS OF THE PLAIN DOOR

-- whose a number is
own_of : (own has : Bool) → owner_by own has ≡ OfControl → own ≡ true
own_of true has is = refl
own_of false true is = absurd cc
own_of false false is = absurd cc

pub is_owned : (p : Proxy) (l : ℕ) → owner_of p l ≡ OfControl → owns p l ≡ true
is_owned p l is = own_of (owns p l) (has_of p.side.relays l) is

pub control_owner : (p : Proxy) (l : ℕ) → owns p l ≡ true → owner_of p l ≡ OfControl
control_owner p l mine = ap (λ (b : Bool). owner_by b (has_of p.side.relays l)) mine

pub other_owner : (p : Proxy) (l : ℕ) (has : Bool) → owns p l ≡ false → has_of p.side.relays l ≡ has → owner_of p l ≡ owner_by false has
other_owner p l has other is =
    ap (λ (b : Bool). owner_by b (has_of p.side.relays l)) other ∙ ap (λ (b : Bool). owner_by false b) is

-- such a link is no upstream, and is found
no_link : {g : NodeConfig} (x : Machine) (zs : List Entry) (k : Relays) (l : ℕ) (o : Option ℕ) → Seen x zs → ShowsRelays g k (outward x)
    → IsPlainThere (x.plain l) → get k.ups l ≡ o → o ≡ None
no_link x zs k l None seen shows there is = refl
no_link x zs k l (Some at) seen shows there is = absurd ((seen.plain.up_alone at l (shows.index.joined at l is)).2 there)

plain_point : {g : NodeConfig} (x : Machine) (zs : List Entry) (k : Relays) (l : ℕ) → Seen x zs → ShowsRelays g k (outward x)
    → IsPlainThere (x.plain l) → (z : Entry) → relays.point_for k l z ≡ Some (of_plain l (plain.entry z))
plain_point x zs k l seen shows there z =
    let kept = is_kept k shows l there in
    ap (λ (at : Option ℕ). relays.point_by at (get k.relays l) (get k.gates l) l z) (no_link x zs k l (get k.ups l) seen shows there refl)
    ∙ ap (λ (o : Option Relay). relays.point_by None o (get k.gates l) l z) kept.1

relay_point : {g : NodeConfig} (x : Machine) (k : Relays) (l u : ℕ) → ShowsRelays g k (outward x) → IsRelayOf (x.plain l) u
    → (z : Entry) → relays.point_for k u z ≡ Some (of_plain l (plain.up z))
relay_point x k l u shows joins z =
    ap (λ (at : Option ℕ). relays.point_by at (get k.relays u) (get k.gates u) u z) (shows.index.found l u joins)

-- nor is a link to a gateway, which is found where no plain link is
no_gate_up : {g : NodeConfig} (x : Machine) (zs : List Entry) (k : Relays) (n : ℕ) (o : Option ℕ) → Seen x zs
    → ShowsRelays g k (outward x) → IsGateThere (x.gates n).phase → get k.ups n ≡ o → o ≡ None
no_gate_up x zs k n None seen shows there is = refl
no_gate_up x zs k n (Some at) seen shows there is =
    absurd ((seen.gates.alone n there).4 at (shows.index.joined at n is))

gate_point : {g : NodeConfig} (x : Machine) (zs : List Entry) (k : Relays) (n : ℕ) → Seen x zs → ShowsRelays g k (outward x)
    → IsGateThere (x.gates n).phase → (z : Entry) → relays.point_for k n z ≡ Some (of_gate n (gate.entry z))
gate_point x zs k n seen shows there z =
    ap (λ (at : Option ℕ). relays.point_by at (get k.relays n) (get k.gates n) n z)
    (no_gate_up x zs k n (get k.ups n) seen shows there refl)
    ∙ ap (λ (o : Option Relay). relays.point_by None o (get k.gates n) n z) (none_kept k shows n (seen.gates.alone n there).2)
    ∙ ap (λ (o : Option Gate). relays.gate_point o n z) (gate_kept k shows n there).1

-- nothing of the inbound door is of the plain one
link_absent : (x : Machine) (zs : List Entry) (l : ℕ) → Seen x zs → IsLinkThere (x.inbound l).phase → IsPresent (outward x) l → ⊥
link_absent x zs l seen there (inl is) = (seen.plain.link_alone l is).1 there
link_absent x zs l seen there (inr (inl up)) = (seen.plain.up_alone up.0 l up.1).1 there
link_absent x zs l seen there (inr (inr is)) = (seen.gates.alone l is).1 there

up_absent : (x : Machine) (zs : List Entry) (k s l : ℕ) → Seen x zs → Joins ((x.inbound k).tunnels s) l → IsPresent (outward x) l → ⊥
up_absent x zs k s l seen joins (inl is) = (seen.plain.link_alone l is).2 k s joins
up_absent x zs k s l seen joins (inr (inl up)) = (seen.plain.up_alone up.0 l up.1).3 k s joins
up_absent x zs k s l seen joins (inr (inr is)) = (seen.gates.alone l is).3 k s joins

-- A ROUTE

-- of one of the inbound door, or of an upstream of that; and of a plain one, or of one to a gateway
pub data LinkRoute (p : Proxy) (x : Machine) (l : ℕ) : Type 0 where
  to_link : IsLinkThere (x.inbound l).phase → get p.side.links.ups l ≡ None
      → ((z : Entry) → point_for p.side.links l z ≡ Some (of_link l (part.entry z))) → LinkRoute p x l
  to_up : (k s : ℕ) → Joins ((x.inbound k).tunnels s) l → get p.side.links.ups l ≡ Some (place k s)
      → ((z : Entry) → point_for p.side.links l z ≡ Some (of_link k (part.up s z))) → LinkRoute p x l

pub data PlainRoute (p : Proxy) (x : Machine) (l : ℕ) : Type 0 where
  to_plain : IsPlainThere (x.plain l) → get p.side.relays.ups l ≡ None
      → ((z : Entry) → relays.point_for p.side.relays l z ≡ Some (of_plain l (plain.entry z))) → PlainRoute p x l
  to_relay : (k : ℕ) → IsRelayOf (x.plain k) l → get p.side.relays.ups l ≡ Some k
      → ((z : Entry) → relays.point_for p.side.relays l z ≡ Some (of_plain k (plain.up z))) → PlainRoute p x l
  to_gate : IsGateThere (x.gates l).phase → get p.side.relays.ups l ≡ None → get p.side.relays.relays l ≡ None
      → ((z : Entry) → relays.point_for p.side.relays l z ≡ Some (of_gate l (gate.entry z))) → PlainRoute p x l

data Route (p : Proxy) (x : Machine) (l : ℕ) : Type 0 where
  to_control : owner_of p l ≡ OfControl → Route p x l
  to_inbound : owner_of p l ≡ OfInbound → LinkRoute p x l → Route p x l
  to_relays : owner_of p l ≡ Plain → PlainRoute p x l → Route p x l

module _ (taken : List Note) (p : Proxy) (trace : List Entry) (s : Stands taken p trace) where
  abbrev x : Machine
  x = s.machine

  seen : Seen x (without_doors trace)
  seen = seen_of taken p trace s

  other : (l : ℕ) → (IsThere (x.control.links l).phase → ⊥) → owns p l ≡ false
  other l none = not_owned x (without_doors trace) p.control.link l seen s.control.link none

  -- whose each is
  pub link_owner : (l : ℕ) → IsLinkThere (x.inbound l).phase → owner_of p l ≡ OfInbound
  link_owner l there =
      other_owner p l false (other l (seen.link_alone l there))
      (has_none p.side.relays s.relays l (link_absent x (without_doors trace) l seen there))

  pub up_owner : (k q l : ℕ) → Joins ((x.inbound k).tunnels q) l → owner_of p l ≡ OfInbound
  up_owner k q l joins =
      other_owner p l false (other l (seen.up_alone k q l joins).0)
      (has_none p.side.relays s.relays l (up_absent x (without_doors trace) k q l seen joins))

  pub plain_owner : (l : ℕ) → IsPlainThere (x.plain l) → owner_of p l ≡ Plain
  plain_owner l there =
      other_owner p l true (other l (seen.plain.link_alone l there).0) (has_some p.side.relays s.relays l (inl there))

  pub relay_owner : (k l : ℕ) → IsRelayOf (x.plain k) l → owner_of p l ≡ Plain
  relay_owner k l joins =
      other_owner p l true (other l (seen.plain.up_alone k l joins).0) (has_some p.side.relays s.relays l (inr (inl (k, joins))))

  pub gate_owner : (n : ℕ) → IsGateThere (x.gates n).phase → owner_of p n ≡ Plain
  gate_owner n there =
      other_owner p n true (other n (seen.gates.alone n there).0) (has_some p.side.relays s.relays n (inr (inr there)))

  pub no_up : (l : ℕ) → IsLinkThere (x.inbound l).phase → get p.side.links.ups l ≡ None
  no_up l there = no_place x (without_doors trace) p.side.links l (get p.side.links.ups l) seen s.links there refl

  pub no_relay : (l : ℕ) → IsPlainThere (x.plain l) → get p.side.relays.ups l ≡ None
  no_relay l there = no_link x (without_doors trace) p.side.relays l (get p.side.relays.ups l) seen s.relays there refl

  pub no_gate_relay : (n : ℕ) → IsGateThere (x.gates n).phase → get p.side.relays.ups n ≡ None
  no_gate_relay n there = no_gate_up x (without_doors trace) p.side.relays n (get p.side.relays.ups n) seen s.relays there refl

  pub no_gate_link : (n : ℕ) → IsGateThere (x.gates n).phase → get p.side.relays.relays n ≡ None
  no_gate_link n there = none_kept p.side.relays s.relays n (seen.gates.alone n there).2

  by_plain : (l : ℕ) → HasPlain x l → Route p x l
  by_plain l (inl there) =
      to_relays (plain_owner l there)
      (to_plain there (no_relay l there) (plain_point x (without_doors trace) p.side.relays l seen s.relays there))
  by_plain l (inr up) =
      to_relays (relay_owner up.0 l up.1)
      (to_relay up.0 up.1 (s.relays.index.found up.0 l up.1) (relay_point x p.side.relays up.0 l s.relays up.1))

  by : (l : ℕ) → HasLink x l → Route p x l
  by l (inl there) = to_control (control_owner p l (owned p.control.link x.control l s.control.link there))
  by l (inr (inl there)) =
      to_inbound (link_owner l there) (to_link there (no_up l there) (link_point x (without_doors trace) p.side.links l seen s.links there))
  by l (inr (inr (inl joins))) =
      to_inbound (up_owner joins.0 joins.1 l joins.2)
      (to_up joins.0 joins.1 joins.2 (s.links.index.found joins.0 joins.1 l joins.2)
      (up_point x p.side.links joins.0 joins.1 l s.links joins.2))
  by l (inr (inr (inr (inl has)))) = by_plain l has
  by l (inr (inr (inr (inr there)))) =
      to_relays (gate_owner l there)
      (to_gate there (no_gate_relay l there) (no_gate_link l there)
      (gate_point x (without_doors trace) p.side.relays l seen s.relays there))

  route : (l : ℕ) → lives l trace ≡ true → Route p x l
  route l alive = by l (seen.has l (lives_then trace l ∙ alive))

  pub link_route : (l : ℕ) → owner_of p l ≡ OfInbound → lives l trace ≡ true → LinkRoute p x l
  link_route l whose alive = at (route l alive)
    where
      at : Route p x l → LinkRoute p x l
      at (to_control is) = let no : OfControl ≡ OfInbound = sym is ∙ whose in absurd cc
      at (to_relays is way) = let no : Plain ≡ OfInbound = sym is ∙ whose in absurd cc
      at (to_inbound is way) = way

  pub plain_route : (l : ℕ) → owner_of p l ≡ Plain → lives l trace ≡ true → PlainRoute p x l
  plain_route l whose alive = at (route l alive)
    where
      at : Route p x l → PlainRoute p x l
      at (to_control is) = let no : OfControl ≡ Plain = sym is ∙ whose in absurd cc
      at (to_inbound is way) = let no : OfInbound ≡ Plain = sym is ∙ whose in absurd cc
      at (to_relays is way) = way
