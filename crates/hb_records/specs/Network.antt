-- An address of a network: its message has to have the address.
use Rattle.std.specs.Prelude.{ℕ, ◌==◌, List, [], Option, Some, None, Result, Ok, Err, if◌then◌else◌}
use Rattle.hb_base.specs.declared.ip.Ip.{Ip}
use Rattle.hb_wire.specs.Field.{Content}
use Rattle.hb_wire.specs.Message.{and_then}
use Rattle.hb_message.specs.Reading.{read_into, of_span}
use Rattle.hb_records.specs.declared.fault.RecordFault.{RecordFault}
use Rattle.hb_records.specs.declared.fault.RecordFault.TheVariants.{Wire, BadIp}
use Rattle.hb_records.specs.declared.network_address.NetworkAddress.{NetworkAddress}
use Rattle.hb_records.specs.declared.network_address.NetworkParts.{NetworkParts}
use Rattle.hb_records.specs.Entries.{text_in, octets_in}

-- network 1, address 2
abbrev pub network_span : NetworkParts → ℕ → List ℕ → Result NetworkParts RecordFault
network_span p number bytes =
    if number == 1 then and_then (text_in 1 bytes) (λ t. Ok (record p { network = t }))
    else (if number == 2 then and_then (octets_in 2 bytes) (λ ip. Ok (record p { address = Some ip })) else Ok p)

abbrev pub network_merged : NetworkParts → Content → Result NetworkParts RecordFault
network_merged p f = of_span p f.value (λ bytes. network_span p f.number bytes)

abbrev pub no_network : NetworkParts
no_network = record { network = []; address = None }

abbrev pub address_or : List ℕ → Option Ip → Result NetworkAddress RecordFault
address_or network None = Err (BadIp 2)
address_or network (Some ip) = Ok (record { network = network; address = ip })

-- what the bytes of one more occurrence at a place make of these parts
unfoldable pub network_with : NetworkParts → ℕ → List ℕ → Result NetworkAddress RecordFault
network_with p at bytes = and_then (read_into network_merged Wire p at bytes) (λ p. address_or p.network p.address)
