-- Which of the workloads of a service, or of a waypoint, a connection goes to.
use Rattle.std.specs.Prelude.{ℕ, Bool, nat_lt, if◌then◌else◌, List, [], ◌∷◌, Option, Some, None, slice_get}
use Rattle.std.specs.Cmp.Lexicographic.{slice_cmp}
use Rattle.std.specs.Ordering.{nat_cmp, ordering_then, is_lt}
use Rattle.std.specs.List.{filter_map, best_of}
use Rattle.hb_base.specs.declared.ip.Ip.{Ip}
use Rattle.hb_base.specs.declared.target.Target.{Target}
use Rattle.hb_held.specs.Endpoints.{endpoints}
use Rattle.hb_held.specs.Held.{Resources}
use Rattle.hb_records.specs.declared.port.Port.{Port}
use Rattle.hb_records.specs.declared.service.Service.{Service}
use Rattle.hb_records.specs.declared.workload.Workload.{Workload}
use Rattle.hb_route.specs.Opens.{Counts, open_at}
use Rattle.hb_route.specs.Ports.{port_of}
use Rattle.hb_route.specs.declared.endpoint.Endpoint.{Endpoint}
use Rattle.hb_route.specs.declared.endpoint.ToPort.{ToPort}
use Rattle.hb_route.specs.declared.endpoint.ToPort.TheVariants as ports

-- where a connection may go: to a workload, by the name of its resource, at one of its addresses, and whether that takes HBONE
pub record Place : Type 0 where
  pub name : List ℕ
  pub target : Target
  pub hbone : Bool

-- a workload at this address and port
abbrev pub place_at : List ℕ × Workload → Option Ip → Option ℕ → Option Place
place_at e None port = None
place_at e (Some ip) None = None
place_at e (Some ip) (Some port) = Some (record { name = e.0; target = record { ip = ip; port = port }; hbone = e.1.hbone })

-- how the port of a workload is had: by its entry for a port of a service; or it is a number, as that of a waypoint
pub data Leading : Type 0 where
  by_service : Service → Port → Leading
  by_number : ℕ → Leading

-- a number above 65,535 is no port of TCP
abbrev pub port_by : Leading → Workload → Option ℕ
port_by (by_service s port) w = port_of w s port
port_by (by_number number) w = if nat_lt 65535 number then None else Some number

-- a workload is a place at one of its addresses where it is healthy and has a port
abbrev pub place_with : Leading → Option Ip → List ℕ × Workload → Option Place
place_with l ip e = if e.1.healthy then place_at e ip (port_by l e.1) else None

-- of its addresses the first counts
abbrev pub place_by : Leading → List ℕ × Workload → Option Place
place_by l e = place_with l (slice_get e.1.addresses 0) e

-- the places of these workloads
abbrev pub places_by : Leading → List (List ℕ × Workload) → List Place
places_by l es = filter_map (place_by l) es

-- of all workloads held those of this network that serve the port of the service
abbrev pub places : Resources → Service → Port → List Place
places h s port = places_by (by_service s port) (endpoints h s.namespace s.hostname)

-- the one with fewer connections open goes first, of equal ones the one of the smaller name, by bytes
abbrev pub goes_before : Counts → Place → Place → Bool
goes_before opens a b = is_lt (ordering_then (nat_cmp (open_at opens a.name) (open_at opens b.name)) (slice_cmp nat_cmp a.name b.name))

-- the one that goes first, of the best so far and one more
abbrev pub better : Counts → Option Place → Place → Place
better opens None more = more
better opens (Some best) more = if goes_before opens more best then more else best

-- the one that goes before all others
abbrev pub chosen : Counts → List Place → Option Place
chosen opens [] = None
chosen opens (p ∷ ps) = Some (best_of (goes_before opens) p ps)

-- an endpoint, by value
abbrev pub place_as : Endpoint → Place
place_as e = record { name = e.name.now; target = e.target; hbone = e.hbone }

-- how a port is had, by value
abbrev pub leading_as : ToPort → Leading
leading_as (ports.OfService service port) = by_service service.now port
leading_as (ports.Number number) = by_number number
