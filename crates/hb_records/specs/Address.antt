-- Address records: a workload or a service. Occurrences of the one merge, if none of the other came between, and the last counts.
use Rattle.std.specs.Prelude.{ℕ, ◌==◌, List, Option, Some, None, Result, Ok, Err, if◌then◌else◌}
use Rattle.hb_wire.specs.Field.{Content}
use Rattle.hb_wire.specs.Message.{and_then}
use Rattle.hb_message.specs.Reading.{read_into, of_span}
use Rattle.hb_records.specs.declared.fault.RecordFault.{RecordFault}
use Rattle.hb_records.specs.declared.fault.RecordFault.TheVariants.{Wire, NoKind}
use Rattle.hb_records.specs.declared.address.Address.{Address}
use Rattle.hb_records.specs.declared.address.AddressRecord.{AddressRecord}
use Rattle.hb_records.specs.declared.address.AddressRecord.TheVariants as records
use Rattle.hb_records.specs.declared.service.Service.{Service}
use Rattle.hb_records.specs.declared.workload.WorkloadParts.{WorkloadParts}
use Rattle.hb_records.specs.Service.{no_service, service_with}
use Rattle.hb_records.specs.Workload.{no_parts, workload_with}

-- what one more occurrence of a workload merges into: the workload that is there
abbrev pub workload_there : Option WorkloadParts → WorkloadParts
workload_there (Some p) = p
workload_there None = no_parts

-- the same of a service
abbrev pub service_there : Option Service → Service
service_there (Some s) = s
service_there None = no_service

-- workload 1, service 2: the one takes the place of the other
abbrev pub address_span : Address → ℕ → ℕ → List ℕ → Result Address RecordFault
address_span a number at bytes =
    if number == 1 then and_then (workload_with (workload_there a.workload) at bytes)
    (λ p. Ok (record { workload = Some p; service = None }))
    else (if number == 2 then and_then (service_with (service_there a.service) at bytes)
    (λ s. Ok (record { workload = None; service = Some s }))
    else Ok a)

abbrev pub address_merged : Address → Content → Result Address RecordFault
address_merged a f = of_span a f.value (λ bytes. address_span a f.number f.at bytes)

abbrev pub no_address : Address
no_address = record { workload = None; service = None }

-- what the fields made: a workload, a service, or a record without a kind
abbrev pub record_or : Option WorkloadParts → Option Service → Result AddressRecord RecordFault
record_or (Some p) service = Ok (records.Workload p.workload)
record_or None (Some s) = Ok (records.Service s)
record_or None None = Err (NoKind 0)

-- the address record that these bytes are
unfoldable pub address_of : List ℕ → Result AddressRecord RecordFault
address_of bytes = and_then (read_into address_merged Wire no_address 0 bytes) (λ a. record_or a.workload a.service)
