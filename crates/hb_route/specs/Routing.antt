-- The way that a connection takes.
use Rattle.std.specs.Prelude.{ℕ, if◌then◌else◌, List, Option, Some, None, is_some}
use Rattle.hb_base.specs.declared.ip.Ip.{Ip}
use Rattle.hb_base.specs.declared.target.Target.{Target}
use Rattle.hb_held.specs.Held.{Resources}
use Rattle.hb_held.specs.Lookup.{known, service_at, workload_at}
use Rattle.hb_records.specs.declared.gateway.GatewayAddress.{GatewayAddress}
use Rattle.hb_records.specs.declared.port.Port.{Port}
use Rattle.hb_records.specs.declared.service.Service.{Service}
use Rattle.hb_records.specs.declared.workload.Workload.{Workload}
use Rattle.hb_route.specs.Answer.{Way, by_gateway, straight, no_way}
use Rattle.hb_route.specs.Endpoint.{Place, places, chosen}
use Rattle.hb_route.specs.Opens.{Counts}
use Rattle.hb_route.specs.Ports.{port_at}
use Rattle.hb_route.specs.Waypoint.{to_waypoint}
use Rattle.hb_route.specs.declared.answer.NoRoute.TheVariants.{UnknownSource, NoEndpoint, NoPort}

-- to a workload that takes HBONE by the gateway on its own address, else straight
abbrev pub to_place : ℕ → Place → Way
to_place hbone_port p =
    if p.hbone then by_gateway (record { ip = p.target.ip; port = hbone_port }) p.target p.name
    else straight p.target (Some p.name)

-- to the workload chosen, where there is one
abbrev pub to_chosen : ℕ → Option Place → Way
to_chosen hbone_port None = no_way NoEndpoint
to_chosen hbone_port (Some p) = to_place hbone_port p

-- to a port of a service, where it has it
abbrev pub to_port : Resources → Counts → Service → ℕ → Option Port → Way
to_port h opens s hbone_port None = no_way NoPort
to_port h opens s hbone_port (Some port) = to_chosen hbone_port (chosen opens (places h s port))

-- to a service: through the waypoint that stands in front of it, else to a port of it
abbrev pub to_service : Resources → Counts → Service → Option GatewayAddress → Target → ℕ → Way
to_service h opens s (Some g) destination hbone_port = to_waypoint h opens g destination hbone_port
to_service h opens s None destination hbone_port = to_port h opens s hbone_port (port_at s.ports destination.port)

-- to a workload itself: through the waypoint that stands in front of it, else to the address; whether it is healthy isn't asked
abbrev pub to_workload : Resources → Counts → List ℕ × Workload → Option GatewayAddress → Target → ℕ → Way
to_workload h opens e (Some g) destination hbone_port = to_waypoint h opens g destination hbone_port
to_workload h opens e None destination hbone_port =
    to_place hbone_port (record { name = e.0; target = destination; hbone = e.1.hbone })

-- to an address that no service has: to the workload that has it, else straight
abbrev pub to_address : Resources → Counts → Option (List ℕ × Workload) → Target → ℕ → Way
to_address h opens None destination hbone_port = straight destination None
to_address h opens (Some e) destination hbone_port = to_workload h opens e e.1.waypoint destination hbone_port

-- to an address: to the service that has it, else to the address itself
abbrev pub to_destination : Resources → Counts → Option (List ℕ × Service) → Target → ℕ → Way
to_destination h opens (Some e) destination hbone_port = to_service h opens e.1 e.1.waypoint destination hbone_port
to_destination h opens None destination hbone_port = to_address h opens (workload_at h destination.ip) destination hbone_port

-- The way from a source to a destination: only a workload of this node is a source.
abbrev pub way : Resources → Counts → Ip → Target → ℕ → Way
way h opens source destination hbone_port =
    if is_some (known h source) then to_destination h opens (service_at h destination.ip) destination hbone_port
    else no_way UnknownSource
