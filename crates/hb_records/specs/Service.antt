-- Services.
use Rattle.std.specs.Prelude.{ℕ, ◌==◌, List, [], Some, None, Result, Ok, if◌then◌else◌}
use Rattle.hb_wire.specs.Field.{Content}
use Rattle.hb_wire.specs.Message.{and_then}
use Rattle.hb_message.specs.Reading.{read_into, of_span}
use Rattle.hb_records.specs.declared.fault.RecordFault.{RecordFault}
use Rattle.hb_records.specs.declared.fault.RecordFault.TheVariants.{Wire}
use Rattle.hb_records.specs.declared.service.Service.{Service}
use Rattle.hb_records.specs.Entries.{text_in, one_more}
use Rattle.hb_records.specs.Network.{no_network, network_with}
use Rattle.hb_records.specs.Ports.{port_in}
use Rattle.hb_records.specs.Gateway.{gateway_with}

-- name 1, namespace 2, hostname 3, addresses 4, ports 5, waypoint 7
abbrev pub service_span : Service → ℕ → ℕ → List ℕ → Result Service RecordFault
service_span s number at bytes =
    if number == 1 then and_then (text_in 1 bytes) (λ t. Ok (record s { name = t }))
    else (if number == 2 then and_then (text_in 2 bytes) (λ t. Ok (record s { namespace = t }))
    else (if number == 3 then and_then (text_in 3 bytes) (λ t. Ok (record s { hostname = t }))
    else (if number == 4 then and_then (one_more 4 s.addresses (network_with no_network at bytes)) (λ l. Ok (record s { addresses = l }))
    else (if number == 5 then and_then (one_more 5 s.ports (port_in at bytes)) (λ l. Ok (record s { ports = l }))
    else (if number == 7 then and_then (gateway_with 7 s.waypoint at bytes) (λ g. Ok (record s { waypoint = Some g }))
    else Ok s)))))

abbrev pub service_merged : Service → Content → Result Service RecordFault
service_merged s f = of_span s f.value (λ bytes. service_span s f.number f.at bytes)

abbrev pub no_service : Service
no_service = record { name = []; namespace = []; hostname = []; addresses = []; ports = []; waypoint = None }

-- what the bytes of one more occurrence at a place make of a service
unfoldable pub service_with : Service → ℕ → List ℕ → Result Service RecordFault
service_with s at bytes = read_into service_merged Wire s at bytes
