-- Why a resource was refused, in words.
use Rattle.std.specs.Prelude.{ℕ, List, ◌++◌, codes, decimal}
use Rattle.hb_wire.specs.declared.fault.WireWhy.{WireWhy}
use Rattle.hb_wire.specs.declared.fault.WireWhy.TheVariants.{Truncated, LongVarint, BadNumber, BadType}
use Rattle.hb_records.specs.declared.fault.RecordFault.{RecordFault}
use Rattle.hb_records.specs.declared.fault.RecordFault.TheVariants.{Wire, Utf8, BadIp, BadCidr, BadEnum, NoKind, TooMany}
use Rattle.hb_held.specs.declared.outcome.RefusedWhy.{RefusedWhy}
use Rattle.hb_held.specs.declared.outcome.RefusedWhy.TheVariants.{NoName, WrongType, Record, Full}

-- what is wrong with the bytes of a field
abbrev pub wire_word : WireWhy → List ℕ
wire_word Truncated = codes "truncated"
wire_word LongVarint = codes "long varint"
wire_word BadNumber = codes "bad number"
wire_word BadType = codes "bad type"

-- why bytes are no record
abbrev pub fault_text : RecordFault → List ℕ
fault_text (Wire fault) = codes "wire " ++ wire_word fault.why ++ codes " at " ++ decimal fault.at
fault_text (Utf8 field) = codes "utf8 in field " ++ decimal field
fault_text (BadIp field) = codes "bad ip in field " ++ decimal field
fault_text (BadCidr field) = codes "bad cidr in field " ++ decimal field
fault_text (BadEnum field value) = codes "bad enum " ++ decimal value ++ codes " in field " ++ decimal field
fault_text (NoKind field) = codes "no kind in field " ++ decimal field
fault_text (TooMany field count) = codes "too many in field " ++ decimal field

-- why a resource was refused
abbrev pub why_text : RefusedWhy → List ℕ
why_text NoName = codes "no name"
why_text WrongType = codes "wrong type"
why_text (Record fault) = fault_text fault
why_text Full = codes "full"
