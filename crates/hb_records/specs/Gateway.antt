-- A gateway: its message has to say to where, by a hostname or by an address, of which the last that occurs counts.
use Rattle.std.specs.Prelude.{ℕ, ◌==◌, List, [], Option, Some, None, Result, Ok, Err, if◌then◌else◌}
use Rattle.hb_wire.specs.Field.{Content, Value, varint, eight, span, four}
use Rattle.hb_wire.specs.Message.{and_then}
use Rattle.hb_message.specs.Reading.{read_into, of_span}
use Rattle.hb_records.specs.declared.fault.RecordFault.{RecordFault}
use Rattle.hb_records.specs.declared.fault.RecordFault.TheVariants.{Wire, NoKind}
use Rattle.hb_records.specs.declared.gateway.GatewayAddress.{GatewayAddress}
use Rattle.hb_records.specs.declared.gateway.GatewayParts.{GatewayParts}
use Rattle.hb_records.specs.declared.gateway.NamespacedHostname.{NamespacedHostname}
use Rattle.hb_records.specs.declared.gateway.Waypoint.{Waypoint}
use Rattle.hb_records.specs.declared.gateway.Waypoint.TheVariants.{Hostname, Address}
use Rattle.hb_records.specs.declared.network_address.NetworkParts.{NetworkParts}
use Rattle.hb_records.specs.Entries.{text_in, low_32}
use Rattle.hb_records.specs.Network.{no_network, network_with}

-- namespace 1, hostname 2
abbrev pub hostname_span : NamespacedHostname → ℕ → List ℕ → Result NamespacedHostname RecordFault
hostname_span h number bytes =
    if number == 1 then and_then (text_in 1 bytes) (λ t. Ok (record h { namespace = t }))
    else (if number == 2 then and_then (text_in 2 bytes) (λ t. Ok (record h { hostname = t })) else Ok h)

abbrev pub hostname_merged : NamespacedHostname → Content → Result NamespacedHostname RecordFault
hostname_merged h f = of_span h f.value (λ bytes. hostname_span h f.number bytes)

-- what one more occurrence of a hostname merges into: the hostname that is there, or an empty one
abbrev pub hostname_there : Option Waypoint → NamespacedHostname
hostname_there (Some (Hostname namespace hostname)) = record { namespace = namespace; hostname = hostname }
hostname_there _ = record { namespace = []; hostname = [] }

-- the same of an address
abbrev pub network_there : Option Waypoint → NetworkParts
network_there (Some (Address n)) = record { network = n.network; address = Some n.address }
network_there _ = no_network

-- what the bytes of one more hostname at a place make of these parts
unfoldable pub hostname_with : NamespacedHostname → ℕ → List ℕ → Result NamespacedHostname RecordFault
hostname_with h at bytes = read_into hostname_merged Wire h at bytes

-- hostname 1, address 2
abbrev pub gateway_span : GatewayParts → ℕ → ℕ → List ℕ → Result GatewayParts RecordFault
gateway_span p number at bytes =
    if number == 1 then and_then (hostname_with (hostname_there p.to) at bytes)
    (λ h. Ok (record p { to = Some (Hostname h.namespace h.hostname) }))
    else (if number == 2 then and_then (network_with (network_there p.to) at bytes) (λ n. Ok (record p { to = Some (Address n) }))
    else Ok p)

-- hbone_mtls_port 3
abbrev pub gateway_number : GatewayParts → ℕ → ℕ → GatewayParts
gateway_number p number n = if number == 3 then record p { hbone_mtls_port = low_32 n } else p

abbrev pub gateway_value : GatewayParts → ℕ → ℕ → Value → Result GatewayParts RecordFault
gateway_value p number at (span bytes) = gateway_span p number at bytes
gateway_value p number at (varint n) = Ok (gateway_number p number n)
gateway_value p number at (eight n) = Ok p
gateway_value p number at (four n) = Ok p

abbrev pub gateway_merged : GatewayParts → Content → Result GatewayParts RecordFault
gateway_merged p f = gateway_value p f.number f.at f.value

-- what one more occurrence of the message merges into
abbrev pub gateway_there : Option GatewayAddress → GatewayParts
gateway_there None = record { to = None; hbone_mtls_port = 0 }
gateway_there (Some g) = record { to = Some g.to; hbone_mtls_port = g.hbone_mtls_port }

abbrev pub to_or : ℕ → ℕ → Option Waypoint → Result GatewayAddress RecordFault
to_or field port None = Err (NoKind field)
to_or field port (Some to) = Ok (record { to = to; hbone_mtls_port = port })

-- what the bytes of one more occurrence at a place, under this field number, make of a gateway
unfoldable pub gateway_with : ℕ → Option GatewayAddress → ℕ → List ℕ → Result GatewayAddress RecordFault
gateway_with field g at bytes =
    and_then (read_into gateway_merged Wire (gateway_there g) at bytes) (λ p. to_or field p.hbone_mtls_port p.to)
