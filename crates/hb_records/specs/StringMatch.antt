-- A string match: one of its members, the last that occurs.
use Rattle.std.specs.Prelude.{ℕ, ◌==◌, List, Option, Some, None, Result, Ok, Err, if◌then◌else◌}
use Rattle.hb_wire.specs.Field.{Content}
use Rattle.hb_wire.specs.Message.{and_then}
use Rattle.hb_message.specs.Reading.{read_into, of_span}
use Rattle.hb_records.specs.declared.fault.RecordFault.{RecordFault}
use Rattle.hb_records.specs.declared.fault.RecordFault.TheVariants.{Wire, NoKind}
use Rattle.hb_records.specs.declared.string_match.StringMatch.{StringMatch}
use Rattle.hb_records.specs.declared.string_match.Member.{Member}
use Rattle.hb_records.specs.declared.string_match.StringMatch.TheVariants.{Exact, Prefix, Suffix, Presence}
use Rattle.hb_records.specs.Entries.{text_in}

-- the members exact 1, prefix 2, suffix 3, and presence 4, whose bytes don't matter
abbrev pub member_in : Option StringMatch → ℕ → List ℕ → Result (Option StringMatch) RecordFault
member_in kind number bytes =
    if number == 1 then and_then (text_in 1 bytes) (λ t. Ok (Some (Exact t)))
    else (if number == 2 then and_then (text_in 2 bytes) (λ t. Ok (Some (Prefix t)))
    else (if number == 3 then and_then (text_in 3 bytes) (λ t. Ok (Some (Suffix t)))
    else (if number == 4 then Ok (Some Presence) else Ok kind)))

abbrev pub member_merged : Option StringMatch → Content → Result (Option StringMatch) RecordFault
member_merged kind f = of_span kind f.value (λ bytes. member_in kind f.number bytes)

-- the same of the value that takes the fields
abbrev pub member_of : Member → Content → Result Member RecordFault
member_of m f = and_then (member_merged m.kind f) (λ kind. Ok (record { kind = kind }))

-- a message that has to have a kind has none, told as this field
abbrev pub kind_or : ℕ → Option StringMatch → Result StringMatch RecordFault
kind_or field (Some kind) = Ok kind
kind_or field None = Err (NoKind field)

-- the string match of these bytes at a place, which stands under this number
unfoldable pub string_match_in : ℕ → ℕ → List ℕ → Result StringMatch RecordFault
string_match_in field at bytes =
    and_then (read_into member_of Wire (record { kind = None }) at bytes)
    (λ m. kind_or field m.kind)
