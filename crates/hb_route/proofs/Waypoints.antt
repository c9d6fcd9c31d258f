-- Where a waypoint stands in front of a destination nothing goes past it; where none does a gateway is next to its target.
use Rattle.std.proofs.Common.{◌≡◌, ◌≤◌, ℕ, Bool, true, false, cond, is_some, List, [], Option, Some, None}
use Rattle.std.proofs.Common.{refl, ap, sym, ◌∙◌, subst, arith}
use Rattle.std.proofs.lemmas.List.Elements.{All-contains}
use Rattle.std.specs.List.{Contains}
use Rattle.std.specs.Str.{bytes_eq}
use Rattle.hb_base.specs.declared.ip.Ip.{Ip}
use Rattle.hb_base.specs.declared.target.Target.{Target}
use Rattle.hb_held.specs.Endpoints.{endpoints}
use Rattle.hb_held.specs.Held.{Resources}
use Rattle.hb_held.specs.Lookup.{known, service_at, workload_at}
use Rattle.hb_records.specs.declared.gateway.GatewayAddress.{GatewayAddress}
use Rattle.hb_records.specs.declared.gateway.Waypoint.{Waypoint}
use Rattle.hb_records.specs.declared.gateway.Waypoint.TheVariants.{Hostname, Address}
use Rattle.hb_records.specs.declared.network_address.NetworkAddress.{NetworkAddress}
use Rattle.hb_records.specs.declared.port.Port.{Port}
use Rattle.hb_records.specs.declared.service.Service.{Service}
use Rattle.hb_records.specs.declared.workload.Workload.{Workload}
use Rattle.hb_route.specs.Answer.{Way, by_gateway, straight, no_way}
use Rattle.hb_route.specs.Endpoint.{Place, Leading, by_number, port_by, place_with, places, places_by, chosen}
use Rattle.hb_route.specs.Laws.{Serves, GoesFirst, IsFirst}
use Rattle.hb_route.specs.Opens.{Counts, open_at}
use Rattle.hb_route.specs.Ports.{port_at}
use Rattle.hb_route.specs.Routing.{to_place, to_chosen, to_port, to_service, to_workload, to_address, to_destination}
use Rattle.hb_route.specs.Waypoint.{waypoint_port, through, why_none, through_workload, through_address, through_waypoint, to_waypoint}
use Rattle.hb_route.specs.WaypointLaws.{waypoint_by, Stands, IsAtAddress, IsAt, GoesThrough}
use Rattle.hb_route.specs.WaypointLaws.{WaypointsAreGoneThrough, NothingGoesPast, NoWaypointIsMissed, GatewaysAreNextToTheirTargets}
use Rattle.hb_route.specs.declared.answer.NoRoute.{NoRoute}
use Rattle.hb_route.specs.declared.answer.NoRoute.TheVariants.{UnknownSource, OtherNetwork, NoWaypointEndpoint}
use Rattle.hb_route.proofs.Choice.{chooses_first}
use Rattle.hb_route.proofs.Serving.{none_contained, placed, place_there, places_serve, none_missed}

-- a way by a gateway, taken apart
same_gateway : (a b c d : Target) (x y : List ℕ) → by_gateway a b x ≡ by_gateway c d y → (a ≡ c) × (b ≡ d) × (x ≡ y)
same_gateway a b c d x y e = (cc, cc, cc)

nothing : {A P : Type 0} (x : A) → None ≡ Some x → P
nothing x e = absurd cc

differ : {P : Type 0} {b : Bool} → b ≡ false → b ≡ true → P
differ p q = absurd cc

same_ip : (a b : Ip) → Some a ≡ Some b → a ≡ b
same_ip a b e = cc

one_value : (a b : List ℕ × Workload) → Some a ≡ Some b → a ≡ b
one_value a b e = cc

one_name : (a : List ℕ × Workload) (name : List ℕ) (w : Workload) → Some a ≡ Some (name, w) → a.0 ≡ name
one_name a name w e = ap (λ (f : List ℕ × Workload). f.0) (one_value a (name, w) e)

by_one : (why : NoRoute) (d gateway authority : Target) (name : List ℕ) (o : Option Place)
    → through why d o ≡ by_gateway gateway authority name
    → (p : Place) × (o ≡ Some p) × (p.target ≡ gateway) × (d ≡ authority) × (p.name ≡ name)
by_one why d gateway authority name None e = absurd cc
by_one why d gateway authority name (Some p) e =
    let parts = same_gateway p.target d gateway authority p.name name e in (p, refl, parts.0, parts.1, parts.2)

never_straight : (why : NoRoute) (d address : Target) (name : Option (List ℕ)) (o : Option Place)
    → through why d o ≡ straight address name → ⊥
never_straight why d address name None e = absurd cc
never_straight why d address name (Some p) e = absurd cc

by_none : (why other : NoRoute) (d : Target) (o : Option Place) → through why d o ≡ no_way other → o ≡ None
by_none why other d None e = refl
by_none why other d (Some p) e = absurd cc

module _ (h : Resources) (opens : Counts) (number : ℕ) (d : Target) where
  abbrev l : Leading
  l = by_number number

  -- the workloads that serve a hostname
  module _ (namespace hostname : List ℕ) where
    abbrev ps : List Place
    ps = places_by l (endpoints h namespace hostname)

    served : (why : NoRoute) (gateway authority : Target) (name : List ℕ)
        → through why d (chosen opens ps) ≡ by_gateway gateway authority name
        → GoesThrough (Serves h namespace hostname l) opens d gateway authority name
    served why gateway authority name e =
        let (p, is, target, asked, named) = by_one why d gateway authority name (chosen opens ps) e in
        let first : GoesFirst opens ps p = subst (IsFirst opens ps) is (chooses_first opens ps) in
        record {
          place = p;
          one = All-contains (Serves h namespace hostname l) ps p (places_serve h namespace hostname l) first.among;
          fewest = λ q at. All-contains (λ (r : Place). open_at opens p.name ≤ open_at opens r.name) ps q first.fewest
              (none_missed h namespace hostname l q at);
          gateway_is = target;
          authority_is = asked;
          name_is = named;
        }

    none_served : (why other : NoRoute) → through why d (chosen opens ps) ≡ no_way other → (p : Place)
        → Serves h namespace hostname l p → ⊥
    none_served why other e p at =
        let none : ps ≡ [] = subst (IsFirst opens ps) (by_none why other d (chosen opens ps) e) (chooses_first opens ps) in
        none_contained p (subst (λ qs. Contains qs p) none (none_missed h namespace hostname l p at))

  -- the workload at an address
  module _ (ip : Ip) where
    stood : (o : Option (List ℕ × Workload)) → workload_at h ip ≡ o → (gateway authority : Target) (name : List ℕ)
        → through_workload o ip number d ≡ by_gateway gateway authority name
        → GoesThrough (Stands h ip l) opens d gateway authority name
    stood None at gateway authority name e = absurd cc
    stood (Some f) at gateway authority name e =
        let (p, is, target, asked, named) = by_one NoWaypointEndpoint d gateway authority name (place_with l (Some ip) f) e in
        let it = placed f f.1.healthy (Some ip) (port_by l f.1) p is in
        record {
          place = p;
          one = record {
            workload = f.1;
            found = at ∙ ap (λ n. Some (n, f.1)) it.name;
            healthy = it.healthy_is;
            address = same_ip ip p.target.ip it.ip_is;
            leads = it.number_is;
            protocol = it.protocol;
          };
          fewest = λ q there. omega (arith, ap (open_at opens) (sym it.name ∙ one_name f q.name there.workload (sym at ∙ there.found)));
          gateway_is = target;
          authority_is = asked;
          name_is = named;
        }

    none_stands : (o : Option (List ℕ × Workload)) → workload_at h ip ≡ o → (why : NoRoute)
        → through_workload o ip number d ≡ no_way why → (p : Place) → Stands h ip l p → ⊥
    none_stands None at why e p there = nothing (p.name, there.workload) (sym at ∙ there.found)
    none_stands (Some f) at why e p there =
        nothing p (sym (by_none NoWaypointEndpoint why d (place_with l (Some ip) f) e)
        ∙ ap (place_with l (Some ip)) (one_value f (p.name, there.workload) (sym at ∙ there.found))
        ∙ place_there l p there.workload (Some ip) there.healthy (ap Some there.address) there.leads there.protocol)

    addressed : (o : Option (List ℕ × Service)) (gateway authority : Target) (name : List ℕ)
        → through_address h opens o ip number d ≡ by_gateway gateway authority name
        → GoesThrough (IsAtAddress h o ip l) opens d gateway authority name
    addressed (Some e) gateway authority name is = served e.1.namespace e.1.hostname NoWaypointEndpoint gateway authority name is
    addressed None gateway authority name is = stood (workload_at h ip) refl gateway authority name is

    none_addressed : (o : Option (List ℕ × Service)) (why : NoRoute) → through_address h opens o ip number d ≡ no_way why
        → (p : Place) → IsAtAddress h o ip l p → ⊥
    none_addressed (Some e) why is p at = none_served e.1.namespace e.1.hostname NoWaypointEndpoint why is p at
    none_addressed None why is p at = none_stands (workload_at h ip) refl why is p at

    no_straight_workload : (o : Option (List ℕ × Workload)) (address : Target) (name : Option (List ℕ))
        → through_workload o ip number d ≡ straight address name → ⊥
    no_straight_workload None address name e = absurd cc
    no_straight_workload (Some f) address name e = never_straight NoWaypointEndpoint d address name (place_with l (Some ip) f) e

    no_straight_address : (o : Option (List ℕ × Service)) (address : Target) (name : Option (List ℕ))
        → through_address h opens o ip number d ≡ straight address name → ⊥
    no_straight_address (Some e) address name is =
        never_straight NoWaypointEndpoint d address name (chosen opens (ps e.1.namespace e.1.hostname)) is
    no_straight_address None address name is = no_straight_workload (workload_at h ip) address name is

  -- an address of a network
  module _ (a : NetworkAddress) where
    abbrev at_address : Bool → Way
    at_address own = cond own (through_address h opens (service_at h a.address) a.address number d) (no_way OtherNetwork)

    networked : (own : Bool) → bytes_eq a.network h.network ≡ own → (gateway authority : Target) (name : List ℕ)
        → at_address own ≡ by_gateway gateway authority name → GoesThrough (IsAt h (Address a) l) opens d gateway authority name
    networked true own gateway authority name e =
        let it = addressed a.address (service_at h a.address) gateway authority name e in
        record {
          place = it.place;
          one = (own, it.one);
          fewest = λ q at. it.fewest q at.1;
          gateway_is = it.gateway_is;
          authority_is = it.authority_is;
          name_is = it.name_is;
        }
    networked false own gateway authority name e = absurd cc

    none_networked : (own : Bool) → bytes_eq a.network h.network ≡ own → (why : NoRoute) → at_address own ≡ no_way why → (p : Place)
        → IsAt h (Address a) l p → ⊥
    none_networked true own why e p at = none_addressed a.address (service_at h a.address) why e p at.1
    none_networked false own why e p at = differ own at.0

    no_straight_network : (own : Bool) (address : Target) (name : Option (List ℕ)) → at_address own ≡ straight address name → ⊥
    no_straight_network true address name e = no_straight_address a.address (service_at h a.address) address name e
    no_straight_network false address name e = absurd cc

  gone_through : (w : Waypoint) (gateway authority : Target) (name : List ℕ)
      → through_waypoint h opens w number d ≡ by_gateway gateway authority name
      → GoesThrough (IsAt h w l) opens d gateway authority name
  gone_through (Hostname namespace hostname) gateway authority name e =
      served namespace hostname (why_none (endpoints h namespace hostname)) gateway authority name e
  gone_through (Address a) gateway authority name e = networked a (bytes_eq a.network h.network) refl gateway authority name e

  none_missing : (w : Waypoint) (why : NoRoute) → through_waypoint h opens w number d ≡ no_way why → (p : Place) → IsAt h w l p → ⊥
  none_missing (Hostname namespace hostname) why e p at =
      none_served namespace hostname (why_none (endpoints h namespace hostname)) why e p at
  none_missing (Address a) why e p at = none_networked a (bytes_eq a.network h.network) refl why e p at

  no_straight : (w : Waypoint) (address : Target) (name : Option (List ℕ)) → through_waypoint h opens w number d ≡ straight address name → ⊥
  no_straight (Hostname namespace hostname) address name e =
      never_straight (why_none (endpoints h namespace hostname)) d address name (chosen opens (ps namespace hostname)) e
  no_straight (Address a) address name e = no_straight_network a (bytes_eq a.network h.network) address name e

module _ (h : Resources) (opens : Counts) (d : Target) (hbone_port : ℕ) where
  -- what is behind a waypoint is reached through it
  workload_behind : (o : Option (List ℕ × Workload)) (g : GatewayAddress) → waypoint_by None o ≡ Some g
      → to_address h opens o d hbone_port ≡ to_waypoint h opens g d hbone_port
  workload_behind None g is = nothing g is
  workload_behind (Some e) g is = ap (λ w. to_workload h opens e w d hbone_port) is

  is_behind : (o : Option (List ℕ × Service)) (g : GatewayAddress) → waypoint_by o (workload_at h d.ip) ≡ Some g
      → to_destination h opens o d hbone_port ≡ to_waypoint h opens g d hbone_port
  is_behind (Some e) g is = ap (λ w. to_service h opens e.1 w d hbone_port) is
  is_behind None g is = workload_behind (workload_at h d.ip) g is

  abbrev NextTo : Target → Target → Type 0
  NextTo gateway authority = (gateway.ip ≡ authority.ip) × (gateway.port ≡ hbone_port)

  module _ (gateway authority : Target) (name : List ℕ) where
    next_place : (p : Place) → to_place hbone_port p ≡ by_gateway gateway authority name → NextTo gateway authority
    next_place p e =
        elim p.hbone as (λ b. cond b (by_gateway (record { ip = p.target.ip; port = hbone_port }) p.target p.name)
        (straight p.target (Some p.name)) ≡ by_gateway gateway authority name → NextTo gateway authority) [
          | true ↦ λ is.
              let parts = same_gateway (record { ip = p.target.ip; port = hbone_port }) p.target gateway authority p.name name is in (
                sym (ap (λ (t : Target). t.ip) parts.0) ∙ ap (λ (t : Target). t.ip) parts.1,
                sym (ap (λ (t : Target). t.port) parts.0),
              )
          | false ↦ λ is. absurd cc
        ] e

    next_chosen : (o : Option Place) → to_chosen hbone_port o ≡ by_gateway gateway authority name → NextTo gateway authority
    next_chosen None e = absurd cc
    next_chosen (Some p) e = next_place p e

    next_port : (s : Service) (o : Option Port) → to_port h opens s hbone_port o ≡ by_gateway gateway authority name
        → NextTo gateway authority
    next_port s None e = absurd cc
    next_port s (Some port) e = next_chosen (chosen opens (places h s port)) e

    next_workload : (o : Option (List ℕ × Workload)) → waypoint_by None o ≡ None
        → to_address h opens o d hbone_port ≡ by_gateway gateway authority name → NextTo gateway authority
    next_workload None is e = absurd cc
    next_workload (Some f) is e =
        next_place (record { name = f.0; target = d; hbone = f.1.hbone })
        (sym (ap (λ w. to_workload h opens f w d hbone_port) is) ∙ e)

    next : (o : Option (List ℕ × Service)) → waypoint_by o (workload_at h d.ip) ≡ None
        → to_destination h opens o d hbone_port ≡ by_gateway gateway authority name → NextTo gateway authority
    next (Some f) is e =
        next_port f.1 (port_at f.1.ports d.port) (sym (ap (λ w. to_service h opens f.1 w d hbone_port) is) ∙ e)
    next None is e = next_workload (workload_at h d.ip) is e

-- from a workload of this node, or none
module _ (there : Way) where
  abbrev from : Bool → Way
  from known_there = cond known_there there (no_way UnknownSource)

  by_gateway_there : (b : Bool) (gateway authority : Target) (name : List ℕ) → from b ≡ by_gateway gateway authority name
      → there ≡ by_gateway gateway authority name
  by_gateway_there true gateway authority name e = e
  by_gateway_there false gateway authority name e = absurd cc

  straight_there : (b : Bool) (address : Target) (name : Option (List ℕ)) → from b ≡ straight address name → there ≡ straight address name
  straight_there true address name e = e
  straight_there false address name e = absurd cc

  none_there : (b : Bool) (why : NoRoute) → b ≡ true → from b ≡ no_way why → there ≡ no_way why
  none_there true why is e = e
  none_there false why is e = absurd cc

pub are_gone_through : WaypointsAreGoneThrough
are_gone_through h opens source d hbone_port g at gateway authority name e =
    gone_through h opens (waypoint_port g hbone_port) d g.to gateway authority name
    (sym (is_behind h opens d hbone_port (service_at h d.ip) g at)
    ∙ by_gateway_there (to_destination h opens (service_at h d.ip) d hbone_port) (is_some (known h source)) gateway authority name e)

pub none_goes_past : NothingGoesPast
none_goes_past h opens source d hbone_port g at address name e =
    no_straight h opens (waypoint_port g hbone_port) d g.to address name
    (sym (is_behind h opens d hbone_port (service_at h d.ip) g at)
    ∙ straight_there (to_destination h opens (service_at h d.ip) d hbone_port) (is_some (known h source)) address name e)

pub no_waypoint_missed : NoWaypointIsMissed
no_waypoint_missed h opens source d hbone_port g at is why e p one =
    none_missing h opens (waypoint_port g hbone_port) d g.to why
    (sym (is_behind h opens d hbone_port (service_at h d.ip) g at)
    ∙ none_there (to_destination h opens (service_at h d.ip) d hbone_port) (is_some (known h source)) why is e) p one

pub next_to_targets : GatewaysAreNextToTheirTargets
next_to_targets h opens source d hbone_port gateway authority name at e =
    next h opens d hbone_port gateway authority name (service_at h d.ip) at
    (by_gateway_there (to_destination h opens (service_at h d.ip) d hbone_port) (is_some (known h source)) gateway authority name e)
