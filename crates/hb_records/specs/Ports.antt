-- Ports of services, and the ports under which a workload serves them.
use Rattle.std.specs.Prelude.{ℕ, Bool, false, ◌==◌, List, [], ◌∷◌, Option, Some, None, Result, Ok, if◌then◌else◌}
use Rattle.std.specs.Cmp.Lexicographic.{slice_cmp}
use Rattle.std.specs.Ordering.{nat_cmp, is_lt}
use Rattle.std.specs.Str.{bytes_eq}
use Rattle.hb_wire.specs.Field.{Content, Value, varint, eight, span, four}
use Rattle.hb_wire.specs.Message.{and_then}
use Rattle.hb_message.specs.Reading.{read_into, of_span}
use Rattle.hb_records.specs.declared.fault.RecordFault.{RecordFault}
use Rattle.hb_records.specs.declared.fault.RecordFault.TheVariants.{Wire}
use Rattle.hb_records.specs.declared.port.Port.{Port}
use Rattle.hb_records.specs.declared.port.PortList.{PortList}
use Rattle.hb_records.specs.declared.port.ServiceEntry.{ServiceEntry}
use Rattle.hb_records.specs.declared.port.ServicePorts.{ServicePorts}
use Rattle.hb_records.specs.Entries.{text_in, low_32, one_more}

-- service_port 1, target_port 2
abbrev pub port_number : Port → ℕ → ℕ → Port
port_number p number n =
    if number == 1 then record p { service_port = low_32 n }
    else (if number == 2 then record p { target_port = low_32 n } else p)

abbrev pub port_value : Port → ℕ → Value → Result Port RecordFault
port_value p number (varint n) = Ok (port_number p number n)
port_value p number (eight n) = Ok p
port_value p number (span bytes) = Ok p
port_value p number (four n) = Ok p

abbrev pub port_merged : Port → Content → Result Port RecordFault
port_merged p f = port_value p f.number f.value

-- the port of these bytes at a place
unfoldable pub port_in : ℕ → List ℕ → Result Port RecordFault
port_in at bytes = read_into port_merged Wire (record { service_port = 0; target_port = 0 }) at bytes

-- a list of ports has ports 1
abbrev pub ports_merged : PortList → Content → Result PortList RecordFault
ports_merged l f = of_span l f.value (λ bytes.
    if f.number == 1 then and_then (one_more 1 l.ports (port_in f.at bytes)) (λ ports. Ok (record { ports = ports })) else Ok l)

-- what the bytes of one more occurrence at a place make of a list of ports
unfoldable pub ports_with : PortList → ℕ → List ℕ → Result PortList RecordFault
ports_with l at bytes = read_into ports_merged Wire l at bytes

-- an entry of a map has its key 1 and its value 2 (Protocol Buffers encoding guide, "Maps")
abbrev pub entry_span : ServiceEntry → ℕ → ℕ → List ℕ → Result ServiceEntry RecordFault
entry_span e number at bytes =
    if number == 1 then and_then (text_in 1 bytes) (λ t. Ok (record e { key = t }))
    else (if number == 2 then and_then (ports_with e.value at bytes) (λ l. Ok (record e { value = l })) else Ok e)

abbrev pub entry_merged : ServiceEntry → Content → Result ServiceEntry RecordFault
entry_merged e f = of_span e f.value (λ bytes. entry_span e f.number f.at bytes)

abbrev pub no_entry : ServiceEntry
no_entry = record { key = []; value = record { ports = [] } }

-- the entry of these bytes at a place
unfoldable pub entry_in : ℕ → List ℕ → Result ServicePorts RecordFault
entry_in at bytes = and_then (read_into entry_merged Wire no_entry at bytes) (λ e. Ok (record { key = e.key; ports = e.value.ports }))

-- a key stands before another, by its bytes
abbrev pub is_before : ServicePorts → ServicePorts → Bool
is_before a b = is_lt (slice_cmp nat_cmp a.key b.key)

-- One more entry, at its place by key; it replaces that of an equal key.
abbrev pub with_entry : List ServicePorts → ServicePorts → List ServicePorts
with_entry [] e = e ∷ []
with_entry (x ∷ xs) e =
    if is_before x e then x ∷ with_entry xs e
    else (if bytes_eq x.key e.key then e ∷ xs else e ∷ x ∷ xs)

-- there is a service, and it has the entry's key
abbrev pub is_of : Option ServicePorts → ServicePorts → Bool
is_of None e = false
is_of (Some x) e = bytes_eq x.key e.key
