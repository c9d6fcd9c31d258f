-- Laws of ways where a waypoint stands in front of their target, and where none does; and small meshes with waypoints.
use Rattle.std.specs.Prelude.{◌≡◌, ◌≤◌, ℕ, true, is_some, List, [], ◌∷◌, Option, Some, None, codes}
use Rattle.std.specs.FinMap.{empty, insert}
use Rattle.std.specs.Str.{bytes_eq}
use Rattle.hb_base.specs.declared.ip.Ip.{Ip}
use Rattle.hb_base.specs.declared.ip.Ip.TheVariants.{V4}
use Rattle.hb_base.specs.declared.target.Target.{Target}
use Rattle.hb_held.specs.Held.{Resources}
use Rattle.hb_held.specs.Lookup.{known, service_at, workload_at}
use Rattle.hb_records.specs.declared.address.AddressRecord.TheVariants as records
use Rattle.hb_records.specs.declared.gateway.GatewayAddress.{GatewayAddress}
use Rattle.hb_records.specs.declared.gateway.Waypoint.{Waypoint}
use Rattle.hb_records.specs.declared.gateway.Waypoint.TheVariants.{Hostname, Address}
use Rattle.hb_records.specs.declared.service.Service.{Service}
use Rattle.hb_records.specs.declared.workload.Workload.{Workload}
use Rattle.hb_records.specs.Service.{no_service}
use Rattle.hb_route.specs.Answer.{Way, by_gateway, straight, no_way}
use Rattle.hb_route.specs.Endpoint.{Place, Leading, by_number, port_by}
use Rattle.hb_route.specs.Laws.{Serves, workload, u1, web, w9, sick, holding, to, Goes, by_u1}
use Rattle.hb_route.specs.Opens.{Counts, open_at}
use Rattle.hb_route.specs.Routing.{way}
use Rattle.hb_route.specs.Waypoint.{waypoint_port}
use Rattle.hb_route.specs.declared.answer.NoRoute.{NoRoute}
use Rattle.hb_route.specs.declared.answer.NoRoute.TheVariants.{OtherNetwork, UnknownWaypoint, NoWaypointEndpoint}

-- what stands in front of an address: the waypoint of the service that has it, where a service has it, else that of the workload
abbrev pub waypoint_by : Option (List ℕ × Service) → Option (List ℕ × Workload) → Option GatewayAddress
waypoint_by (Some s) w = s.1.waypoint
waypoint_by None (Some w) = w.1.waypoint
waypoint_by None None = None

abbrev pub waypoint_at : Resources → Ip → Option GatewayAddress
waypoint_at h ip = waypoint_by (service_at h ip) (workload_at h ip)

-- the workload found at an address, healthy, is at this place, with this port
pub record Stands (h : Resources) (ip : Ip) (l : Leading) (p : Place) : Type 0 where
  pub workload : Workload
  pub found : workload_at h ip ≡ Some (p.name, workload)
  pub healthy : workload.healthy ≡ true
  pub address : ip ≡ p.target.ip
  pub leads : port_by l workload ≡ Some p.target.port
  pub protocol : workload.hbone ≡ p.hbone

-- at this place is a workload of what has an address: one that serves the service, else the workload itself
abbrev pub IsAtAddress : Resources → Option (List ℕ × Service) → Ip → Leading → Place → Type 0
IsAtAddress h (Some e) ip l p = Serves h e.1.namespace e.1.hostname l p
IsAtAddress h None ip l p = Stands h ip l p

-- at this place is a workload of a waypoint, of this network
abbrev pub IsAt : Resources → Waypoint → Leading → Place → Type 0
IsAt h (Hostname namespace hostname) l p = Serves h namespace hostname l p
IsAt h (Address a) l p = (bytes_eq a.network h.network ≡ true) × IsAtAddress h (service_at h a.address) a.address l p

-- the same with the port at which it takes HBONE
abbrev pub IsAtWaypoint : Resources → GatewayAddress → ℕ → Place → Type 0
IsAtWaypoint h g hbone_port p = IsAt h g.to (by_number (waypoint_port g hbone_port)) p

-- the gateway is that on a workload of these places, of which none has fewer connections open; it is asked for the destination itself
pub record GoesThrough (IsOne : Place → Type 0) (opens : Counts) (destination gateway authority : Target) (name : List ℕ) : Type 0 where
  pub place : Place
  pub one : IsOne place
  pub fewest : (q : Place) → IsOne q → open_at opens place.name ≤ open_at opens q.name
  pub gateway_is : place.target ≡ gateway
  pub authority_is : destination ≡ authority
  pub name_is : place.name ≡ name

-- where a waypoint stands in front of the destination, a gateway is that of the waypoint
abbrev pub WaypointsAreGoneThrough : Type 0
WaypointsAreGoneThrough =
    (h : Resources) (opens : Counts) (source : Ip) (destination : Target) (hbone_port : ℕ) (g : GatewayAddress)
    → waypoint_at h destination.ip ≡ Some g → (gateway authority : Target) (name : List ℕ)
    → way h opens source destination hbone_port ≡ by_gateway gateway authority name
    → GoesThrough (IsAtWaypoint h g hbone_port) opens destination gateway authority name

-- and nothing goes straight
abbrev pub NothingGoesPast : Type 0
NothingGoesPast =
    (h : Resources) (opens : Counts) (source : Ip) (destination : Target) (hbone_port : ℕ) (g : GatewayAddress)
    → waypoint_at h destination.ip ≡ Some g → (address : Target) (name : Option (List ℕ))
    → way h opens source destination hbone_port ≡ straight address name → ⊥

-- a workload of this node finds no way only where no workload of the waypoint takes connections
abbrev pub NoWaypointIsMissed : Type 0
NoWaypointIsMissed =
    (h : Resources) (opens : Counts) (source : Ip) (destination : Target) (hbone_port : ℕ) (g : GatewayAddress)
    → waypoint_at h destination.ip ≡ Some g → is_some (known h source) ≡ true → (why : NoRoute)
    → way h opens source destination hbone_port ≡ no_way why → (p : Place) → IsAtWaypoint h g hbone_port p → ⊥

-- where none stands in front, a gateway has the address of the authority that it is asked for, and the port of gateways
abbrev pub GatewaysAreNextToTheirTargets : Type 0
GatewaysAreNextToTheirTargets =
    (h : Resources) (opens : Counts) (source : Ip) (destination : Target) (hbone_port : ℕ) (gateway authority : Target) (name : List ℕ)
    → waypoint_at h destination.ip ≡ None → way h opens source destination hbone_port ≡ by_gateway gateway authority name
    → (gateway.ip ≡ authority.ip) × (gateway.port ≡ hbone_port)

-- small meshes: the workloads p1 at 10.0.0.17 and p2 at 10.0.0.18 of a waypoint, a service a/way.a at 10.1.0.2; behind it a
-- workload u1 and a service a/web.a
abbrev pub pod : ℕ → Workload
pod ip = record (workload ip) { services = record { key = codes "a/way.a"; ports = [] } ∷ [] }

abbrev pub p1 : Workload
p1 = pod 167772177

abbrev pub p2 : Workload
p2 = pod 167772178

abbrev pub way_service : Service
way_service =
    record no_service {
      namespace = codes "a";
      hostname = codes "way.a";
      addresses = record { network = codes "net"; address = V4 167837698 } ∷ [];
    }

abbrev pub behind : Workload → Workload → Workload → Service → Resources
behind one two target s =
    holding ((codes "p1", records.Workload one) ∷ (codes "p2", records.Workload two) ∷ (codes "u1", records.Workload target)
    ∷ (codes "w9", records.Workload w9) ∷ (codes "way", records.Service way_service) ∷ (codes "web", records.Service s) ∷ [])

-- a waypoint by a hostname of the namespace a, or by an address, with a port or 0
abbrev pub named : List ℕ → ℕ → Option GatewayAddress
named hostname number = Some (record { to = Hostname (codes "a") hostname; hbone_mtls_port = number })

abbrev pub addressed : List ℕ → ℕ → Option GatewayAddress
addressed network ip = Some (record { to = Address (record { network = network; address = V4 ip }); hbone_mtls_port = 0 })

-- so many connections are open to p1 and to p2
abbrev pub passing : ℕ → ℕ → Counts
passing one two = insert (insert empty (codes "p2") two) (codes "p1") one

-- to the service on port 80, and to the workload itself on port 53, each behind these waypoints
abbrev pub ToService : Workload → Workload → Option GatewayAddress → Option GatewayAddress → ℕ → ℕ → Way → Type 0
ToService one two of_service of_workload opens_one opens_two w =
    Goes (behind one two (record u1 { waypoint = of_workload }) (record web { waypoint = of_service })) (passing opens_one opens_two)
    167837697 80 w

abbrev pub ToWorkload : Workload → Workload → Option GatewayAddress → Option GatewayAddress → ℕ → ℕ → Way → Type 0
ToWorkload one two of_service of_workload opens_one opens_two w =
    Goes (behind one two (record u1 { waypoint = of_workload }) (record web { waypoint = of_service })) (passing opens_one opens_two)
    167772167 53 w

abbrev pub by_p1 : ℕ → Way
by_p1 number = by_gateway (to 167772177 number) (to 167837697 80) (codes "p1")

abbrev pub by_p2 : ℕ → Way
by_p2 number = by_gateway (to 167772178 number) (to 167837697 80) (codes "p2")

-- by a hostname to the one with fewer open, at the port that the record names; of equal ones to the smaller name, at the port of all
-- gateways where it names none
abbrev pub FewerIsGoneThrough : Type 0
FewerIsGoneThrough = ToService p1 p2 (named (codes "way.a") 15009) None 1 0 (by_p2 15009)

abbrev pub SmallerNameIsGoneThrough : Type 0
SmallerNameIsGoneThrough = ToService p1 p2 (named (codes "way.a") 0) None 1 1 (by_p1 15008)

-- by an address that a service has, and by one that a workload has
abbrev pub ServiceIsGoneThrough : Type 0
ServiceIsGoneThrough = ToService p1 p2 (addressed (codes "net") 167837698) None 1 0 (by_p2 15008)

abbrev pub WorkloadIsGoneThrough : Type 0
WorkloadIsGoneThrough = ToService p1 p2 (addressed (codes "net") 167772177) None 1 0 (by_p1 15008)

-- the workload's own waypoint, to the workload itself
abbrev pub WorkloadIsBehindItsOwn : Type 0
WorkloadIsBehindItsOwn =
    ToWorkload p1 p2 None (named (codes "way.a") 0) 0 0 (by_gateway (to 167772177 15008) (to 167772167 53) (codes "p1"))

-- the workload's isn't asked where a service has the address, nor the service's for the workload itself
abbrev pub ServiceGoesWithoutWorkloads : Type 0
ServiceGoesWithoutWorkloads = ToService p1 p2 None (named (codes "way.a") 0) 0 0 by_u1

abbrev pub WorkloadGoesWithoutServices : Type 0
WorkloadGoesWithoutServices =
    ToWorkload p1 p2 (named (codes "way.a") 0) None 0 0 (by_gateway (to 167772167 15008) (to 167772167 53) (codes "u1"))

-- one that isn't healthy is passed over; none is left; a port that is none of TCP; nobody has the hostname, or the address; another
-- network's address
abbrev pub SickWaypointIsPassedOver : Type 0
SickWaypointIsPassedOver = ToService (sick p1) p2 (named (codes "way.a") 0) None 0 5 (by_p2 15008)

abbrev pub NoWaypointIsHealthy : Type 0
NoWaypointIsHealthy = ToService (sick p1) (sick p2) (named (codes "way.a") 0) None 0 0 (no_way NoWaypointEndpoint)

abbrev pub WaypointsPortIsTooLarge : Type 0
WaypointsPortIsTooLarge = ToService p1 p2 (named (codes "way.a") 70000) None 0 0 (no_way NoWaypointEndpoint)

abbrev pub HostnameIsUnknown : Type 0
HostnameIsUnknown = ToService p1 p2 (named (codes "far.a") 0) None 0 0 (no_way UnknownWaypoint)

abbrev pub AddressIsUnknown : Type 0
AddressIsUnknown = ToService p1 p2 (addressed (codes "net") 167772179) None 0 0 (no_way UnknownWaypoint)

abbrev pub NetworkIsAnother : Type 0
NetworkIsAnother = ToService p1 p2 (addressed (codes "far") 167772177) None 0 0 (no_way OtherNetwork)

-- wrong ways: to the target's own gateway, where a waypoint is due and where its workloads aren't healthy; the waypoint's address as
-- authority; the port of all gateways where the record names one; the busier of two; through another network's address; through the
-- workload's waypoint where the service has none, and through the service's to the workload itself
abbrev pub WaypointIsPassedBy : Type 0
WaypointIsPassedBy = ToService p1 p2 (named (codes "way.a") 15009) None 1 0 by_u1

abbrev pub SickWaypointIsPassedBy : Type 0
SickWaypointIsPassedBy = ToService (sick p1) (sick p2) (named (codes "way.a") 0) None 0 0 by_u1

abbrev pub SickWaypointIsGoneStraight : Type 0
SickWaypointIsGoneStraight =
    ToService (sick p1) (sick p2) (named (codes "way.a") 0) None 0 0 (straight (to 167772167 8080) (Some (codes "u1")))

abbrev pub WaypointIsTheAuthority : Type 0
WaypointIsTheAuthority =
    ToService p1 p2 (named (codes "way.a") 15009) None 1 0 (by_gateway (to 167772178 15009) (to 167772178 15009) (codes "p2"))

abbrev pub NamedPortIsPassedBy : Type 0
NamedPortIsPassedBy = ToService p1 p2 (named (codes "way.a") 15009) None 1 0 (by_p2 15008)

abbrev pub BusierIsGoneThrough : Type 0
BusierIsGoneThrough = ToService p1 p2 (named (codes "way.a") 15009) None 1 0 (by_p1 15009)

abbrev pub OtherNetworkIsGoneThrough : Type 0
OtherNetworkIsGoneThrough = ToService p1 p2 (addressed (codes "far") 167772177) None 0 0 (by_p1 15008)

abbrev pub WorkloadsWaypointIsAsked : Type 0
WorkloadsWaypointIsAsked = ToService p1 p2 None (named (codes "way.a") 0) 0 0 (by_p1 15008)

abbrev pub ServicesWaypointIsAsked : Type 0
ServicesWaypointIsAsked =
    ToWorkload p1 p2 (named (codes "way.a") 0) None 0 0 (by_gateway (to 167772177 15008) (to 167772167 53) (codes "p1"))
