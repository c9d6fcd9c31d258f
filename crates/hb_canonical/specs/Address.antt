-- Address records in canonical spelling.
use Rattle.std.specs.Prelude.{ℕ, Bool, true, false, List, ◌++◌}
use Rattle.hb_wire.specs.Writing.{number_of, bytes_of}
use Rattle.hb_records.specs.declared.address.AddressRecord.{AddressRecord}
use Rattle.hb_records.specs.declared.address.AddressRecord.TheVariants as records
use Rattle.hb_records.specs.declared.service.Service.{Service}
use Rattle.hb_records.specs.declared.workload.Workload.{Workload}
use Rattle.hb_canonical.specs.Fields.{text_field, entries_of, octets_of}
use Rattle.hb_canonical.specs.Gateway.{network_of, gateway_field}
use Rattle.hb_canonical.specs.Ports.{port_of, service_entry_of}

-- tunnel_protocol: 1 is HBONE, 0 none
abbrev pub protocol_number : Bool → ℕ
protocol_number true = 1
protocol_number false = 0

-- status: 0 is healthy, 1 isn't
abbrev pub status_number : Bool → ℕ
status_number true = 0
status_number false = 1

-- name 1, namespace 2, addresses 3, network 4, tunnel_protocol 5, trust_domain 6, service_account 7, waypoint 8, node 9,
-- authorization_policies 16, status 17, uid 20, hostname 21, services 22
unfoldable pub workload_of : Workload → List ℕ
workload_of w =
    text_field 1 w.name
    ++ (text_field 2 w.namespace
    ++ (entries_of 3 octets_of w.addresses
    ++ (text_field 4 w.network
    ++ (number_of 5 (protocol_number w.hbone)
    ++ (text_field 6 w.trust_domain
    ++ (text_field 7 w.service_account
    ++ (gateway_field 8 w.waypoint
    ++ (text_field 9 w.node
    ++ (entries_of 16 (λ name. name) w.authorization_policies
    ++ (number_of 17 (status_number w.healthy)
    ++ (text_field 20 w.uid
    ++ (text_field 21 w.hostname
    ++ entries_of 22 service_entry_of w.services))))))))))))

-- name 1, namespace 2, hostname 3, addresses 4, ports 5, waypoint 7
unfoldable pub service_of : Service → List ℕ
service_of s =
    text_field 1 s.name
    ++ (text_field 2 s.namespace
    ++ (text_field 3 s.hostname
    ++ (entries_of 4 network_of s.addresses
    ++ (entries_of 5 port_of s.ports
    ++ gateway_field 7 s.waypoint))))

-- one of workload 1 and service 2, written also where it is empty
unfoldable pub canonical_address : AddressRecord → List ℕ
canonical_address (records.Workload w) = bytes_of 1 (workload_of w)
canonical_address (records.Service s) = bytes_of 2 (service_of s)
