-- Ports, and the ports under which a workload serves a service, in canonical spelling.
use Rattle.std.specs.Prelude.{ℕ, List, ◌++◌}
use Rattle.hb_wire.specs.Writing.{number_of, bytes_of}
use Rattle.hb_records.specs.declared.port.Port.{Port}
use Rattle.hb_records.specs.declared.port.ServicePorts.{ServicePorts}
use Rattle.hb_canonical.specs.Fields.{text_field, entries_of}

-- service_port 1, target_port 2
unfoldable pub port_of : Port → List ℕ
port_of p = number_of 1 p.service_port ++ number_of 2 p.target_port

-- ports 1
unfoldable pub ports_of : List Port → List ℕ
ports_of ports = entries_of 1 port_of ports

-- An entry of the map of services: its key 1, which is left out where it is empty, and its value 2, always written.
unfoldable pub service_entry_of : ServicePorts → List ℕ
service_entry_of e = text_field 1 e.key ++ bytes_of 2 (ports_of e.ports)
