-- The way through a waypoint: connections to what it stands in front of go to one of its workloads first.
use Rattle.std.specs.Prelude.{ℕ, ◌==◌, if◌then◌else◌, List, [], ◌∷◌, Option, Some, None}
use Rattle.std.specs.Str.{bytes_eq}
use Rattle.hb_base.specs.declared.ip.Ip.{Ip}
use Rattle.hb_base.specs.declared.target.Target.{Target}
use Rattle.hb_held.specs.Endpoints.{endpoints}
use Rattle.hb_held.specs.Held.{Resources}
use Rattle.hb_held.specs.Lookup.{service_at, workload_at}
use Rattle.hb_records.specs.declared.gateway.GatewayAddress.{GatewayAddress}
use Rattle.hb_records.specs.declared.gateway.Waypoint.{Waypoint}
use Rattle.hb_records.specs.declared.gateway.Waypoint.TheVariants.{Hostname, Address}
use Rattle.hb_records.specs.declared.network_address.NetworkAddress.{NetworkAddress}
use Rattle.hb_records.specs.declared.service.Service.{Service}
use Rattle.hb_records.specs.declared.workload.Workload.{Workload}
use Rattle.hb_route.specs.Answer.{Way, by_gateway, no_way}
use Rattle.hb_route.specs.Endpoint.{Place, by_number, place_with, places_by, chosen}
use Rattle.hb_route.specs.Opens.{Counts}
use Rattle.hb_route.specs.declared.answer.NoRoute.{NoRoute}
use Rattle.hb_route.specs.declared.answer.NoRoute.TheVariants.{OtherNetwork, UnknownWaypoint, NoWaypointEndpoint}

-- the port at which a waypoint takes HBONE: the one that the record names; where that is 0, the one of all gateways
abbrev pub waypoint_port : GatewayAddress → ℕ → ℕ
waypoint_port g hbone_port = if g.hbone_mtls_port == 0 then hbone_port else g.hbone_mtls_port

-- to the destination by the gateway at a place of its waypoint
abbrev pub by_place : Target → Place → Way
by_place destination p = by_gateway p.target destination p.name

-- by such a place, where there is one
abbrev pub through : NoRoute → Target → Option Place → Way
through why destination None = no_way why
through why destination (Some p) = by_place destination p

-- where none of these workloads is a place: there is none, or none that takes connections
abbrev pub why_none : List (List ℕ × Workload) → NoRoute
why_none [] = UnknownWaypoint
why_none (e ∷ es) = NoWaypointEndpoint

-- through the workloads that serve a hostname
abbrev pub through_hostname : Resources → Counts → List ℕ → List ℕ → ℕ → Target → Way
through_hostname h opens namespace hostname port destination =
    through (why_none (endpoints h namespace hostname)) destination
    (chosen opens (places_by (by_number port) (endpoints h namespace hostname)))

-- through the workload that has an address, at that address
abbrev pub through_workload : Option (List ℕ × Workload) → Ip → ℕ → Target → Way
through_workload None ip port destination = no_way UnknownWaypoint
through_workload (Some e) ip port destination = through NoWaypointEndpoint destination (place_with (by_number port) (Some ip) e)

-- through the workloads that serve the service at an address
abbrev pub through_service : Resources → Counts → Service → ℕ → Target → Way
through_service h opens s port destination =
    through NoWaypointEndpoint destination (chosen opens (places_by (by_number port) (endpoints h s.namespace s.hostname)))

-- through what has an address: the service, else the workload
abbrev pub through_address : Resources → Counts → Option (List ℕ × Service) → Ip → ℕ → Target → Way
through_address h opens (Some e) ip port destination = through_service h opens e.1 port destination
through_address h opens None ip port destination = through_workload (workload_at h ip) ip port destination

-- through an address of this network
abbrev pub through_network : Resources → Counts → NetworkAddress → ℕ → Target → Way
through_network h opens a port destination =
    if bytes_eq a.network h.network then through_address h opens (service_at h a.address) a.address port destination
    else no_way OtherNetwork

-- by what the waypoint is found
abbrev pub through_waypoint : Resources → Counts → Waypoint → ℕ → Target → Way
through_waypoint h opens (Hostname namespace hostname) port destination = through_hostname h opens namespace hostname port destination
through_waypoint h opens (Address a) port destination = through_network h opens a port destination

-- The way to a destination through its waypoint, and never past it: the authority is the destination itself.
abbrev pub to_waypoint : Resources → Counts → GatewayAddress → Target → ℕ → Way
to_waypoint h opens g destination hbone_port = through_waypoint h opens g.to (waypoint_port g hbone_port) destination
