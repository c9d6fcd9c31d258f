-- Prefixes of addresses (RFC 4291 section 2.3).
use Rattle.std.specs.Prelude.{ℕ, ◌==◌, List, Option, Some, None, Result, Ok, Err, if◌then◌else◌}
use Rattle.hb_base.specs.declared.cidr.Cidr.{Cidr}
use Rattle.hb_base.specs.Cidr.{cidr_of}
use Rattle.hb_wire.specs.Field.{Content, Value, varint, eight, span, four}
use Rattle.hb_wire.specs.Message.{and_then}
use Rattle.hb_message.specs.Reading.{read_into}
use Rattle.hb_records.specs.declared.fault.RecordFault.{RecordFault}
use Rattle.hb_records.specs.declared.fault.RecordFault.TheVariants.{Wire, BadCidr}
use Rattle.hb_records.specs.declared.prefix.PrefixParts.{PrefixParts}
use Rattle.hb_records.specs.Entries.{octets_in, low_32}

-- address 1, which is 4 or 16 octets where it stands
abbrev pub prefix_span : PrefixParts → ℕ → List ℕ → Result PrefixParts RecordFault
prefix_span p number bytes =
    if number == 1 then and_then (octets_in 1 bytes) (λ _. Ok (record p { address = Some bytes })) else Ok p

-- length 2
abbrev pub prefix_number : PrefixParts → ℕ → ℕ → PrefixParts
prefix_number p number n = if number == 2 then record p { length = low_32 n } else p

abbrev pub prefix_value : PrefixParts → ℕ → Value → Result PrefixParts RecordFault
prefix_value p number (span bytes) = prefix_span p number bytes
prefix_value p number (varint n) = Ok (prefix_number p number n)
prefix_value p number (eight n) = Ok p
prefix_value p number (four n) = Ok p

abbrev pub prefix_merged : PrefixParts → Content → Result PrefixParts RecordFault
prefix_merged p f = prefix_value p f.number f.value

abbrev pub no_prefix : PrefixParts
no_prefix = record { address = None; length = 0 }

abbrev pub cidr_or : ℕ → Option Cidr → Result Cidr RecordFault
cidr_or field None = Err (BadCidr field)
cidr_or field (Some c) = Ok c

abbrev pub octets_or : ℕ → ℕ → Option (List ℕ) → Result Cidr RecordFault
octets_or field length None = Err (BadCidr field)
octets_or field length (Some octets) = cidr_or field (cidr_of octets length)

-- the prefix of these bytes at a place, which stands under this number
unfoldable pub prefix_in : ℕ → ℕ → List ℕ → Result Cidr RecordFault
prefix_in field at bytes = and_then (read_into prefix_merged Wire no_prefix at bytes) (λ p. octets_or field p.length p.address)
