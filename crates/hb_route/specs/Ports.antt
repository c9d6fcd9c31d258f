-- Which port of a service a connection is for, and to which port of a workload that leads.
use Rattle.std.specs.Prelude.{ℕ, ◌==◌, if◌then◌else◌, nat_lt, List, [], ◌∷◌, Option, Some, None, option_and_then}
use Rattle.std.specs.Str.{bytes_eq}
use Rattle.hb_held.specs.Endpoints.{joined}
use Rattle.hb_records.specs.declared.port.Port.{Port}
use Rattle.hb_records.specs.declared.port.ServicePorts.{ServicePorts}
use Rattle.hb_records.specs.declared.service.Service.{Service}
use Rattle.hb_records.specs.declared.workload.Workload.{Workload}

-- the first port of this number
abbrev pub port_at : List Port → ℕ → Option Port
port_at [] number = None
port_at (p ∷ ps) number = if p.service_port == number then Some p else port_at ps number

-- the ports of the first entry under this key
abbrev pub ports_under : List ServicePorts → List ℕ → Option (List Port)
ports_under [] key = None
ports_under (s ∷ ss) key = if bytes_eq s.key key then Some s.ports else ports_under ss key

-- a workload's entry names the target port; where that is 0 the service does; where that is 0 too it is the service's own port
abbrev pub target_number : Port → Port → ℕ
target_number entry port =
    if entry.target_port == 0 then (if port.target_port == 0 then port.service_port else port.target_port)
    else entry.target_port

-- a number above 65,535 is no port of TCP
abbrev pub target_port : Port → Port → Option ℕ
target_port entry port = if nat_lt 65535 (target_number entry port) then None else Some (target_number entry port)

-- the port of a workload to which a port of a service leads, by the workload's entry for the service
abbrev pub port_of : Workload → Service → Port → Option ℕ
port_of w s port =
    option_and_then (λ entry. target_port entry port)
    (option_and_then (λ ports. port_at ports port.service_port) (ports_under w.services (joined s.namespace s.hostname)))
