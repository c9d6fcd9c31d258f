-- Workloads.
use Rattle.std.specs.Prelude.{ℕ, ◌+◌, ◌==◌, nat_lt, List, [], true, false, Some, None, Result, Ok, if◌then◌else◌}
use Rattle.hb_wire.specs.Field.{Content, Value, varint, eight, span, four}
use Rattle.hb_wire.specs.Message.{and_then}
use Rattle.hb_message.specs.Reading.{read_into}
use Rattle.hb_records.specs.declared.fault.RecordFault.{RecordFault}
use Rattle.hb_records.specs.declared.fault.RecordFault.TheVariants.{Wire}
use Rattle.hb_records.specs.declared.port.ServicePorts.{ServicePorts}
use Rattle.hb_records.specs.declared.workload.Workload.{Workload}
use Rattle.hb_records.specs.declared.workload.WorkloadParts.{WorkloadParts}
use Rattle.hb_records.specs.Entries.{text_in, octets_in, low_32, most_entries, too_many, one_more}
use Rattle.hb_records.specs.Ports.{entry_in, with_entry}
use Rattle.hb_records.specs.Gateway.{gateway_with}

-- name 1, namespace 2, network 4, trust_domain 6, service_account 7, node 9, uid 20, hostname 21
abbrev pub workload_text : Workload → ℕ → List ℕ → Result Workload RecordFault
workload_text w number bytes =
    if number == 1 then and_then (text_in 1 bytes) (λ t. Ok (record w { name = t }))
    else (if number == 2 then and_then (text_in 2 bytes) (λ t. Ok (record w { namespace = t }))
    else (if number == 4 then and_then (text_in 4 bytes) (λ t. Ok (record w { network = t }))
    else (if number == 6 then and_then (text_in 6 bytes) (λ t. Ok (record w { trust_domain = t }))
    else (if number == 7 then and_then (text_in 7 bytes) (λ t. Ok (record w { service_account = t }))
    else (if number == 9 then and_then (text_in 9 bytes) (λ t. Ok (record w { node = t }))
    else (if number == 20 then and_then (text_in 20 bytes) (λ t. Ok (record w { uid = t }))
    else (if number == 21 then and_then (text_in 21 bytes) (λ t. Ok (record w { hostname = t }))
    else Ok w)))))))

-- addresses 3, waypoint 8 and authorization_policies 16
abbrev pub workload_span : Workload → ℕ → ℕ → List ℕ → Result Workload RecordFault
workload_span w number at bytes =
    if number == 3 then and_then (one_more 3 w.addresses (octets_in 3 bytes)) (λ l. Ok (record w { addresses = l }))
    else (if number == 8 then and_then (gateway_with 8 w.waypoint at bytes) (λ g. Ok (record w { waypoint = Some g }))
    else (if number == 16 then and_then (one_more 16 w.authorization_policies (text_in 16 bytes))
    (λ l. Ok (record w { authorization_policies = l }))
    else workload_text w number bytes))

-- tunnel_protocol 5: 1 is HBONE; status 17: 0 is healthy
abbrev pub workload_number : Workload → ℕ → ℕ → Workload
workload_number w number n =
    if number == 5 then record w { hbone = low_32 n == 1 }
    else (if number == 17 then record w { healthy = low_32 n == 0 }
    else w)

-- one more entry of the map of services: each that came counts, also one that replaces another
abbrev pub with_service : WorkloadParts → ServicePorts → WorkloadParts
with_service p e = record { workload = record p.workload { services = with_entry p.workload.services e }; entries = p.entries + 1 }

abbrev pub service_entry : WorkloadParts → ℕ → List ℕ → Result WorkloadParts RecordFault
service_entry p at bytes =
    if nat_lt p.entries most_entries then and_then (entry_in at bytes) (λ e. Ok (with_service p e)) else too_many 22

-- services 22, and all others
abbrev pub parts_span : WorkloadParts → ℕ → ℕ → List ℕ → Result WorkloadParts RecordFault
parts_span p number at bytes =
    if number == 22 then service_entry p at bytes
    else and_then (workload_span p.workload number at bytes) (λ w. Ok (record p { workload = w }))

abbrev pub parts_value : WorkloadParts → ℕ → ℕ → Value → Result WorkloadParts RecordFault
parts_value p number at (span bytes) = parts_span p number at bytes
parts_value p number at (varint n) = Ok (record p { workload = workload_number p.workload number n })
parts_value p number at (eight n) = Ok p
parts_value p number at (four n) = Ok p

abbrev pub parts_merged : WorkloadParts → Content → Result WorkloadParts RecordFault
parts_merged p f = parts_value p f.number f.at f.value

abbrev pub no_workload : Workload
no_workload = record {
  name = [];
  namespace = [];
  addresses = [];
  network = [];
  hbone = false;
  trust_domain = [];
  service_account = [];
  waypoint = None;
  node = [];
  authorization_policies = [];
  healthy = true;
  uid = [];
  hostname = [];
  services = [];
}

abbrev pub no_parts : WorkloadParts
no_parts = record { workload = no_workload; entries = 0 }

-- what the bytes of one more occurrence at a place make of a workload
unfoldable pub workload_with : WorkloadParts → ℕ → List ℕ → Result WorkloadParts RecordFault
workload_with p at bytes = read_into parts_merged Wire p at bytes
