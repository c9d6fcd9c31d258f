-- Strings, numbers, addresses, and the entries of a repeated field.
use Rattle.std.specs.Prelude.{ℕ, ◌%◌, ◌^◌, nat_lt, List, [], ◌∷◌, ◌++◌, length, Option, Some, None, Result, Ok, Err, if◌then◌else◌}
use Rattle.hb_base.specs.declared.ip.Ip.{Ip}
use Rattle.hb_base.specs.Octets.{ip_of_octets}
use Rattle.hb_wire.specs.Message.{and_then}
use Rattle.hb_message.specs.Reading.{text_by}
use Rattle.hb_records.specs.declared.fault.RecordFault.{RecordFault}
use Rattle.hb_records.specs.declared.fault.RecordFault.TheVariants.{Utf8, BadIp, TooMany}

-- a string field
abbrev pub text_in : ℕ → List ℕ → Result (List ℕ) RecordFault
text_in field bytes = text_by Utf8 field bytes

-- a uint32 or an enum: the low 32 bits of the varint (Protocol Buffers encoding guide, "Bools and Enums")
abbrev pub low_32 : ℕ → ℕ
low_32 n = n % 2 ^ 32

abbrev pub ip_or : ℕ → Option Ip → Result Ip RecordFault
ip_or field None = Err (BadIp field)
ip_or field (Some ip) = Ok ip

-- an address is 4 or 16 octets
abbrev pub octets_in : ℕ → List ℕ → Result Ip RecordFault
octets_in field bytes = ip_or field (ip_of_octets bytes)

-- A repeated field has at most 4,096 entries: the 4,097th is one too many, whatever it is.
abbrev pub most_entries : ℕ
most_entries = 4096

abbrev pub too_many : {T : Type 0} → ℕ → Result T RecordFault
too_many field = Err (TooMany field 4097)

abbrev pub room_in : {T : Type 0} → ℕ → List T → Result (Unit {0}) RecordFault
room_in field entries = if nat_lt (length entries) most_entries then Ok tt else too_many field

-- one more entry of a repeated field
abbrev pub one_more : {T : Type 0} → ℕ → List T → Result T RecordFault → Result (List T) RecordFault
one_more field entries entry = and_then (room_in field entries) (λ _. and_then entry (λ e. Ok (entries ++ e ∷ [])))
