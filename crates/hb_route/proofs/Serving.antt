-- The places of a service or a waypoint.
use Rattle.std.proofs.Common.{◌≡◌, ℕ, Bool, true, false, cond, List, [], ◌∷◌, Option, Some, None, slice_get}
use Rattle.std.proofs.Common.{refl, ap, sym, ◌∙◌, subst, arith, ◌⊎◌, inl, inr}
use Rattle.std.specs.Prelude.{filter}
use Rattle.std.proofs.lemmas.List.Elements.{All-nil, All-cons, All-head, All-tail, All-weaker, All-contains, All-contains_itself}
use Rattle.std.proofs.lemmas.List.Elements.{All-filter, filter_passes, Contains-append_right}
use Rattle.std.specs.List.{All, Contains, filter_map, cons_option}
use Rattle.hb_base.specs.declared.ip.Ip.{Ip}
use Rattle.hb_held.specs.Endpoints.{serves, endpoints}
use Rattle.hb_held.specs.Held.{Resources}
use Rattle.hb_held.specs.Lookup.{workloads}
use Rattle.hb_records.specs.declared.workload.Workload.{Workload}
use Rattle.hb_route.specs.Endpoint.{Place, Leading, port_by, place_at, place_with, place_by, places_by}
use Rattle.hb_route.specs.Laws.{Serves, PlacesServe, NoPlaceIsMissed}

same : {A : Type 0} (x y : A) → Some x ≡ Some y → x ≡ y
same x y e = cc

no_value : {A P : Type 0} (x : A) → None ≡ Some x → P
no_value x e = absurd cc

module _ {X Y : Type 0} (f : X → Option Y) where
  -- what is made of values has what follows from theirs
  all_made : (P : X → Type 0) (Q : Y → Type 0) → ((x : X) (y : Y) → P x → f x ≡ Some y → Q y) → (xs : List X) → All P xs
      → All Q (filter_map f xs)
  all_made P Q step [] h = All-nil Q
  all_made P Q step (x ∷ xs) h =
      elim (f x) as (λ o. f x ≡ o → All Q (cons_option o (filter_map f xs))) [
        | None ↦ λ _. all_made P Q step xs (All-tail P x xs h)
        | Some y ↦ λ is. All-cons Q y (filter_map f xs) (step x y (All-head P x xs h) is) (all_made P Q step xs (All-tail P x xs h))
      ] refl

-- a list has a value, by its parts
Has : {X : Type 0} → List X → X → Type 0
Has [] x = ⊥
Has (y ∷ ys) x = (y ≡ x) ⊎ Has ys x

all_had : {X : Type 0} (xs : List X) → All (Has xs) xs
unfolding Has
all_had [] = All-nil (Has [])
all_had (x ∷ xs) = All-cons (Has (x ∷ xs)) x xs (inl refl) (All-weaker (Has xs) (Has (x ∷ xs)) (λ _ h. inr h) xs (all_had xs))

has : {X : Type 0} (xs : List X) (x : X) → Contains xs x → Has xs x
has xs x h = All-contains (Has xs) xs x (all_had xs) h

pub none_contained : {X P : Type 0} (x : X) → Contains [] x → P
unfolding Has
none_contained x h = absurd (has [] x h)

contains : {X : Type 0} (xs : List X) (x : X) → Has xs x → Contains xs x
unfolding Has
contains [] x h = absurd h
contains (y ∷ ys) x (inl e) = subst (Contains (y ∷ ys)) e (0, omega arith, refl)
contains (y ∷ ys) x (inr h) = Contains-append_right (y ∷ []) ys x (contains ys x h)

has_filter : {X : Type 0} (p : X → Bool) (xs : List X) (x : X) → p x ≡ true → Has xs x → Has (filter p xs) x
unfolding Has
has_filter p [] x passes h = absurd h
has_filter p (y ∷ ys) x passes (inl e) =
    subst (λ b. Has (cond b (y ∷ filter p ys) (filter p ys)) x) (sym (ap p e ∙ passes)) (inl e)
has_filter p (y ∷ ys) x passes (inr h) =
    elim (p y) as (λ b. Has (cond b (y ∷ filter p ys) (filter p ys)) x) [
      | true ↦ inr (has_filter p ys x passes h)
      | false ↦ has_filter p ys x passes h
    ]

has_made : {X Y : Type 0} (f : X → Option Y) (xs : List X) (x : X) (y : Y) → f x ≡ Some y → Has xs x → Has (filter_map f xs) y
unfolding Has
has_made f [] x y is h = absurd h
has_made f (z ∷ zs) x y is (inl e) = subst (λ o. Has (cons_option o (filter_map f zs)) y) (sym (ap f e ∙ is)) (inl refl)
has_made f (z ∷ zs) x y is (inr h) =
    elim (f z) as (λ o. Has (cons_option o (filter_map f zs)) y) [
      | None ↦ has_made f zs x y is h
      | Some w ↦ inr (has_made f zs x y is h)
    ]

-- what a place says of its workload
pub record Placed (e : List ℕ × Workload) (healthy : Bool) (ip : Option Ip) (number : Option ℕ) (p : Place) : Type 0 where
  pub name : e.0 ≡ p.name
  pub healthy_is : healthy ≡ true
  pub ip_is : ip ≡ Some p.target.ip
  pub number_is : number ≡ Some p.target.port
  pub protocol : e.1.hbone ≡ p.hbone

pub placed : (e : List ℕ × Workload) (healthy : Bool) (ip : Option Ip) (number : Option ℕ) (p : Place)
    → cond healthy (place_at e ip number) None ≡ Some p → Placed e healthy ip number p
placed e false ip number p is = no_value p is
placed e true None number p is = no_value p is
placed e true (Some ip) None p is = no_value p is
placed e true (Some ip) (Some number) p is =
    let it = same (record { name = e.0; target = record { ip = ip; port = number }; hbone = e.1.hbone }) p is in
    record {
      name = ap (λ (q : Place). q.name) it;
      healthy_is = refl;
      ip_is = ap (λ (q : Place). Some q.target.ip) it;
      number_is = ap (λ (q : Place). Some q.target.port) it;
      protocol = ap (λ (q : Place). q.hbone) it;
    }

-- a healthy workload with an address and a port is a place
pub place_there : (l : Leading) (p : Place) (w : Workload) (ip : Option Ip) → w.healthy ≡ true → ip ≡ Some p.target.ip
    → port_by l w ≡ Some p.target.port → w.hbone ≡ p.hbone → place_with l ip (p.name, w) ≡ Some p
place_there l p w ip healthy address leads protocol =
    let e : List ℕ × Workload = (p.name, w) in
    ap (λ b. cond b (place_at e ip (port_by l w)) None) healthy
    ∙ ap (λ a. place_at e a (port_by l w)) address
    ∙ ap (place_at e (Some p.target.ip)) leads
    ∙ ap (λ b. Some (record { name = p.name; target = p.target; hbone = b })) protocol

module _ (h : Resources) (namespace hostname : List ℕ) (l : Leading) where
  abbrev serving : List ℕ × Workload → Bool
  serving e = serves h.network namespace hostname e.1

  abbrev Listed : List ℕ × Workload → Type 0
  Listed e = Contains (workloads h) e × (serving e ≡ true)

  listed : All Listed (endpoints h namespace hostname)
  listed = λ k d within. (
    All-filter serving (Contains (workloads h)) (workloads h) (All-contains_itself (workloads h)) k d within,
    filter_passes serving (workloads h) k d within,
  )

  serves_there : (e : List ℕ × Workload) (p : Place) → Listed e → place_by l e ≡ Some p → Serves h namespace hostname l p
  serves_there e p at is =
      let it = placed e e.1.healthy (slice_get e.1.addresses 0) (port_by l e.1) p is in
      record {
        workload = e.1;
        held = subst (λ n. Contains (workloads h) (n, e.1)) it.name at.0;
        serving = at.1;
        healthy = it.healthy_is;
        address = it.ip_is;
        leads = it.number_is;
        protocol = it.protocol;
      }

  place_is : (p : Place) (at : Serves h namespace hostname l p) → place_by l (p.name, at.workload) ≡ Some p
  place_is p at =
      place_there l p at.workload (slice_get at.workload.addresses 0) at.healthy at.address at.leads at.protocol

pub places_serve : PlacesServe
places_serve h namespace hostname l =
    all_made (place_by l) (Listed h namespace hostname l) (Serves h namespace hostname l) (serves_there h namespace hostname l)
    (endpoints h namespace hostname) (listed h namespace hostname l)

pub none_missed : NoPlaceIsMissed
none_missed h namespace hostname l p at =
    let e : List ℕ × Workload = (p.name, at.workload) in
    contains (places_by l (endpoints h namespace hostname)) p
    (has_made (place_by l) (endpoints h namespace hostname) e p (place_is h namespace hostname l p at)
    (has_filter (serving h namespace hostname l) (workloads h) e at.serving (has (workloads h) e at.held)))
