-- Addresses of a network, hostnames and gateways in canonical spelling.
use Rattle.std.specs.Prelude.{ℕ, List, [], ◌++◌, Option, Some, None}
use Rattle.hb_wire.specs.Writing.{number_of, bytes_of}
use Rattle.hb_records.specs.declared.gateway.GatewayAddress.{GatewayAddress}
use Rattle.hb_records.specs.declared.gateway.Waypoint.{Waypoint}
use Rattle.hb_records.specs.declared.gateway.Waypoint.TheVariants.{Hostname, Address}
use Rattle.hb_records.specs.declared.network_address.NetworkAddress.{NetworkAddress}
use Rattle.hb_canonical.specs.Fields.{text_field, octets_of}

-- network 1, address 2
unfoldable pub network_of : NetworkAddress → List ℕ
network_of n = text_field 1 n.network ++ bytes_of 2 (octets_of n.address)

-- namespace 1, hostname 2
unfoldable pub hostname_of : List ℕ → List ℕ → List ℕ
hostname_of namespace hostname = text_field 1 namespace ++ text_field 2 hostname

-- one of hostname 1 and address 2, written also where it is empty
unfoldable pub waypoint_of : Waypoint → List ℕ
waypoint_of (Hostname namespace hostname) = bytes_of 1 (hostname_of namespace hostname)
waypoint_of (Address n) = bytes_of 2 (network_of n)

-- to where, and hbone_mtls_port 3
unfoldable pub gateway_of : GatewayAddress → List ℕ
gateway_of g = waypoint_of g.to ++ number_of 3 g.hbone_mtls_port

-- a gateway as a field, where there is one
abbrev pub gateway_field : ℕ → Option GatewayAddress → List ℕ
gateway_field number None = []
gateway_field number (Some g) = bytes_of number (gateway_of g)
