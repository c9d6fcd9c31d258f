-- Laws of ways, and small meshes with the ways through them.
use Rattle.std.specs.Prelude.{◌≡◌, ◌≤◌, ℕ, ◌+◌, true, false, List, [], ◌∷◌, map, Option, Some, None, codes, slice_get}
use Rattle.std.specs.Cmp.Lexicographic.{slice_cmp}
use Rattle.std.specs.FinMap.{empty, insert, from_sorted}
use Rattle.std.specs.List.{All, Contains, best_of}
use Rattle.std.specs.Ordering.{nat_cmp, is_lt}
use Rattle.std.specs.Str.{bytes_eq}
use Rattle.hb_base.specs.declared.ip.Ip.TheVariants.{V4}
use Rattle.hb_base.specs.declared.target.Target.{Target}
use Rattle.hb_held.specs.Endpoints.{serves, endpoints}
use Rattle.hb_held.specs.Held.{Resources, no_doors, nothing_held}
use Rattle.hb_held.specs.Lookup.{workloads}
use Rattle.hb_records.specs.declared.address.AddressRecord.{AddressRecord}
use Rattle.hb_records.specs.declared.address.AddressRecord.TheVariants as records
use Rattle.hb_records.specs.declared.port.Port.{Port}
use Rattle.hb_records.specs.declared.service.Service.{Service}
use Rattle.hb_records.specs.declared.workload.Workload.{Workload}
use Rattle.hb_records.specs.Service.{no_service}
use Rattle.hb_records.specs.Workload.{no_workload}
use Rattle.hb_route.specs.Answer.{Way, by_gateway, straight, no_way}
use Rattle.hb_route.specs.Endpoint.{Place, Leading, port_by, places_by}
use Rattle.hb_route.specs.Opens.{Counts, open_at}
use Rattle.hb_route.specs.Routing.{way}
use Rattle.hb_route.specs.declared.answer.NoRoute.TheVariants.{UnknownSource, NoEndpoint, NoPort}

-- a change of the numbers steps the one of a name, and no other
abbrev pub Steps : (Counts → List ℕ → Counts) → (ℕ → ℕ) → Type 0
Steps change step =
    (opens : Counts) (name : List ℕ)
    → (open_at (change opens name) name ≡ step (open_at opens name))
    × ((other : List ℕ) → bytes_eq other name ≡ false → open_at (change opens name) other ≡ open_at opens other)

-- wrong changes: the first connection alone is counted; the name alone is kept
abbrev pub sets_to_one : Counts → List ℕ → Counts
sets_to_one opens name = insert opens name 1

abbrev pub keeps_one_name : Counts → List ℕ → Counts
keeps_one_name opens name = insert empty name (open_at opens name + 1)

-- it is one of these endpoints, none of them has fewer connections open, and of those that have as many none has a smaller name
pub record GoesFirst (opens : Counts) (ps : List Place) (p : Place) : Type 0 where
  pub among : Contains ps p
  pub fewest : All (λ q. open_at opens p.name ≤ open_at opens q.name) ps
  pub smallest : All (λ q. open_at opens q.name ≡ open_at opens p.name → is_lt (slice_cmp nat_cmp q.name p.name) ≡ false) ps

-- such an endpoint; none exactly where there is none
abbrev pub IsFirst : Counts → List Place → Option Place → Type 0
IsFirst opens ps None = ps ≡ []
IsFirst opens ps (Some p) = GoesFirst opens ps p

abbrev pub ChoosesFirst : (Counts → List Place → Option Place) → Type 0
ChoosesFirst choose = (opens : Counts) (ps : List Place) → IsFirst opens ps (choose opens ps)

-- wrong choices: the first of the list; the one of the smallest name; none
abbrev pub first_listed : Counts → List Place → Option Place
first_listed opens ps = slice_get ps 0

abbrev pub smallest_name : Counts → List Place → Option Place
smallest_name opens [] = None
smallest_name opens (p ∷ ps) = Some (best_of (λ a b. is_lt (slice_cmp nat_cmp a.name b.name)) p ps)

abbrev pub no_choice : Counts → List Place → Option Place
no_choice opens ps = None

-- under this name a workload is held that serves the hostname, is healthy, has this first address, and has this port
pub record Serves (h : Resources) (namespace hostname : List ℕ) (l : Leading) (p : Place) : Type 0 where
  pub workload : Workload
  pub held : Contains (workloads h) (p.name, workload)
  pub serving : serves h.network namespace hostname workload ≡ true
  pub healthy : workload.healthy ≡ true
  pub address : slice_get workload.addresses 0 ≡ Some p.target.ip
  pub leads : port_by l workload ≡ Some p.target.port
  pub protocol : workload.hbone ≡ p.hbone

-- the places of a hostname are those that serve it, and no others
abbrev pub PlacesServe : Type 0
PlacesServe =
    (h : Resources) (namespace hostname : List ℕ) (l : Leading)
    → All (Serves h namespace hostname l) (places_by l (endpoints h namespace hostname))

abbrev pub NoPlaceIsMissed : Type 0
NoPlaceIsMissed =
    (h : Resources) (namespace hostname : List ℕ) (l : Leading) (p : Place) → Serves h namespace hostname l p
    → Contains (places_by l (endpoints h namespace hostname)) p

-- small meshes: workloads u1 at 10.0.0.7 and u2 at 10.0.0.8; a source w9 at 10.0.0.9; a service a/web.a at 10.1.0.1
abbrev pub port : ℕ → ℕ → Port
port number target = record { service_port = number; target_port = target }

abbrev pub workload : ℕ → Workload
workload ip = record no_workload { addresses = V4 ip ∷ []; network = codes "net"; hbone = true }

-- it leads port 80 of the service to its port 8080
abbrev pub end_at : ℕ → Workload
end_at ip = record (workload ip) { services = record { key = codes "a/web.a"; ports = port 80 8080 ∷ [] } ∷ [] }

abbrev pub u1 : Workload
u1 = end_at 167772167

abbrev pub u2 : Workload
u2 = end_at 167772168

abbrev pub web : Service
web =
    record no_service {
      namespace = codes "a";
      hostname = codes "web.a";
      addresses = record { network = codes "net"; address = V4 167837697 } ∷ [];
      ports = port 80 0 ∷ [];
    }

abbrev pub w9 : Workload
w9 = record (workload 167772169) { node = codes "n1" }

-- a node n1 of the network net that holds these records
abbrev pub holding : List (List ℕ × AddressRecord) → Resources
holding rs =
    record (nothing_held (codes "net") (codes "n1") no_doors) {
      addresses = from_sorted (map (λ r. (r.0, record { version = codes "1"; content = r.1 })) rs);
    }

abbrev pub mesh : Workload → Workload → Service → Resources
mesh one two s =
    holding ((codes "u1", records.Workload one) ∷ (codes "u2", records.Workload two) ∷ (codes "w9", records.Workload w9)
    ∷ (codes "web", records.Service s) ∷ [])

-- so many connections are open to u1 and to u2
abbrev pub opened : ℕ → ℕ → Counts
opened one two = insert (insert empty (codes "u2") two) (codes "u1") one

abbrev pub to : ℕ → ℕ → Target
to ip number = record { ip = V4 ip; port = number }

-- from 10.0.0.9 a connection to an address and port goes this way
abbrev pub Goes : Resources → Counts → ℕ → ℕ → Way → Type 0
Goes h opens ip number w = way h opens (V4 167772169) (to ip number) 15008 ≡ w

abbrev pub by_u1 : Way
by_u1 = by_gateway (to 167772167 15008) (to 167772167 8080) (codes "u1")

abbrev pub by_u2 : Way
by_u2 = by_gateway (to 167772168 15008) (to 167772168 8080) (codes "u2")

-- an endpoint that isn't healthy, and one that doesn't take HBONE
abbrev pub sick : Workload → Workload
sick w = record w { healthy = false }

abbrev pub plain : Workload → Workload
plain w = record w { hbone = false }

-- the same service with port 81 alone, which no workload's entry has
abbrev pub unled : Service
unled = record web { ports = port 81 8080 ∷ [] }

-- to the service on port 80
abbrev pub ToWeb : Workload → Workload → ℕ → ℕ → Way → Type 0
ToWeb one two opens_one opens_two w = Goes (mesh one two web) (opened opens_one opens_two) 167837697 80 w

-- to the endpoint with fewer open, of equal ones to the smaller name, by its gateway; to one that doesn't take HBONE straight
abbrev pub FewerGoesFirst : Type 0
FewerGoesFirst = ToWeb u1 u2 1 0 by_u2

abbrev pub SmallerNameGoesFirst : Type 0
SmallerNameGoesFirst = ToWeb u1 u2 1 1 by_u1

abbrev pub PlainGoesStraight : Type 0
PlainGoesStraight = ToWeb (plain u1) u2 0 0 (straight (to 167772167 8080) (Some (codes "u1")))

-- an endpoint that isn't healthy is passed over; where none is left there is no route
abbrev pub SickIsPassedOver : Type 0
SickIsPassedOver = ToWeb (sick u1) u2 0 5 by_u2

abbrev pub NoneIsHealthy : Type 0
NoneIsHealthy = ToWeb (sick u1) (sick u2) 0 0 (no_way NoEndpoint)

-- a port that the service hasn't; a port that the workloads' entries haven't; a source that isn't of this node
abbrev pub OtherPortIsRefused : Type 0
OtherPortIsRefused = Goes (mesh u1 u2 web) (opened 0 0) 167837697 81 (no_way NoPort)

abbrev pub UnledPortIsRefused : Type 0
UnledPortIsRefused = Goes (mesh u1 u2 unled) (opened 0 0) 167837697 81 (no_way NoEndpoint)

abbrev pub StrangerIsRefused : Type 0
StrangerIsRefused = way (mesh u1 u2 web) (opened 0 0) (V4 167772168) (to 167837697 80) 15008 ≡ no_way UnknownSource

-- to a workload itself by its gateway, or straight; to what nobody knows straight
abbrev pub WorkloadIsReached : Type 0
WorkloadIsReached =
    Goes (mesh u1 u2 web) (opened 0 0) 167772167 53 (by_gateway (to 167772167 15008) (to 167772167 53) (codes "u1"))

abbrev pub PlainWorkloadIsReached : Type 0
PlainWorkloadIsReached = Goes (mesh (plain u1) u2 web) (opened 0 0) 167772167 53 (straight (to 167772167 53) (Some (codes "u1")))

abbrev pub ElsewhereGoesStraight : Type 0
ElsewhereGoesStraight = Goes (mesh u1 u2 web) (opened 0 0) 134744072 53 (straight (to 134744072 53) None)

-- wrong ways: to an endpoint that has more open; to one that isn't healthy; straight where a gateway is due; to the service's own
-- port in place of the target port; to a port that no entry has
abbrev pub BusierGoesFirst : Type 0
BusierGoesFirst = ToWeb u1 u2 1 0 by_u1

abbrev pub SickIsReached : Type 0
SickIsReached = ToWeb (sick u1) u2 0 5 by_u1

abbrev pub GatewayIsPassedBy : Type 0
GatewayIsPassedBy = ToWeb u1 u2 1 0 (straight (to 167772168 8080) (Some (codes "u2")))

abbrev pub ServicePortIsReached : Type 0
ServicePortIsReached = ToWeb u1 u2 1 0 (by_gateway (to 167772168 15008) (to 167772168 80) (codes "u2"))

abbrev pub UnledPortIsReached : Type 0
UnledPortIsReached = Goes (mesh u1 u2 unled) (opened 0 0) 167837697 81 by_u1
