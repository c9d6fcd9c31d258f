-- Addresses with their networks, waypoints, and the ports of services.
use Rattle.std.specs.Prelude.{ℕ, List, [], ◌∷◌, Option, Some, None, map, codes}
use Rattle.std.specs.List.{fold}
use Rattle.hb_base.specs.IpText.{ip_text}
use Rattle.hb_held.specs.Endpoints.{joined}
use Rattle.hb_records.specs.declared.gateway.GatewayAddress.{GatewayAddress}
use Rattle.hb_records.specs.declared.gateway.Waypoint.{Waypoint}
use Rattle.hb_records.specs.declared.gateway.Waypoint.TheVariants.{Hostname, Address}
use Rattle.hb_records.specs.declared.network_address.NetworkAddress.{NetworkAddress}
use Rattle.hb_records.specs.declared.port.Port.{Port}
use Rattle.hb_records.specs.declared.port.ServicePorts.{ServicePorts}
use Rattle.serde_json.specs.Data.{Data, number, unsigned, string, array, object, Members, no_members, put}
use Rattle.serde_json.specs.View.{items_of}
use Rattle.hb_lines.specs.Object.{number_member, object_of}

-- an address of a network: `network/address`
abbrev pub network_address_text : NetworkAddress → List ℕ
network_address_text n = joined n.network (ip_text n.address)

abbrev pub network_address_data : NetworkAddress → Data
network_address_data n = string (network_address_text n)

-- by what a waypoint is found: `namespace/hostname`, or an address of a network
abbrev pub destination_text : Waypoint → List ℕ
destination_text (Hostname namespace hostname) = joined namespace hostname
destination_text (Address n) = network_address_text n

-- a waypoint, with its port for HBONE where it names one
abbrev pub waypoint_members : GatewayAddress → List (List ℕ × Option Data)
waypoint_members g =
    (codes "destination", Some (string (destination_text g.to))) ∷
    (codes "hboneMtlsPort", number_member g.hbone_mtls_port) ∷ []

abbrev pub waypoint_data : GatewayAddress → Data
waypoint_data g = object_of (waypoint_members g)

-- a port of a service, with the port to which it leads where it names one
abbrev pub port_members : Port → List (List ℕ × Option Data)
port_members p =
    (codes "servicePort", Some (number (unsigned p.service_port))) ∷
    (codes "targetPort", number_member p.target_port) ∷ []

abbrev pub port_data : Port → Data
port_data p = object_of (port_members p)

-- the ports under which a workload serves each service, by the services' keys
abbrev pub put_service : Members → ServicePorts → Members
put_service members s = put s.key (array (items_of (map port_data s.ports))) members

unfoldable pub services_member : List ServicePorts → Option Data
services_member [] = None
services_member (s ∷ ss) = Some (object (fold put_service no_members (s ∷ ss)))
