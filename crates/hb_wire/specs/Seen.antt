-- What contracts see of the types of this crate: fields without where they lie in memory.
use Rattle.std.specs.Prelude.{ℕ, ◌+◌, ◌^◌, ◌<◌, length, Option, Some, None, Result, Ok, Err}
use Rattle.hb_wire.specs.declared.cursor.Cursor.{Cursor}
use Rattle.hb_wire.specs.declared.fault.WireFault.{WireFault}
use Rattle.hb_wire.specs.declared.fields.Field.{Field}
use Rattle.hb_wire.specs.declared.fields.FieldValue.{FieldValue}
use Rattle.hb_wire.specs.declared.fields.FieldValue.TheVariants.{Varint, Eight, Span, Four}
use Rattle.hb_wire.specs.Field.{Unread, Value, varint, eight, span, four, Content}

abbrev pub value_of : FieldValue → Value
value_of (Varint n) = varint n
value_of (Eight n) = eight n
value_of (Span bytes) = span bytes.now
value_of (Four n) = four n

abbrev pub content : Field → Content
content f = record { number = f.number; at = f.at; value = value_of f.value }

abbrev pub unread : Cursor → Unread
unread c = record { at = c.at; left = c.left.now }

-- a result whose value is seen by view
abbrev pub seen : {X Y : Type 0} → (X → Y) → Result X WireFault → Result Y WireFault
seen view (Ok x) = Ok (view x)
seen view (Err e) = Err e

-- a span's bytes end at a place that can be counted
abbrev pub EndsInMemory : ℕ → FieldValue → Type 0
EndsInMemory at (Span bytes) = at + length bytes.now < 2 ^ 64
EndsInMemory at (Varint n) = Unit {0}
EndsInMemory at (Eight n) = Unit {0}
EndsInMemory at (Four n) = Unit {0}

abbrev pub IsInMemory : Field → Type 0
IsInMemory f = EndsInMemory f.at f.value

-- what a call of next_field answered, and what is unread after it
abbrev pub answer : Result (Option Field) WireFault → Unread → Result (Option (Content × Unread)) WireFault
answer (Ok None) after = Ok None
answer (Ok (Some f)) after = Ok (Some (content f, after))
answer (Err e) after = Err e

-- the same of the next number of a packed field
abbrev pub number_answer : Result (Option ℕ) WireFault → Unread → Result (Option (ℕ × Unread)) WireFault
number_answer (Ok None) after = Ok None
number_answer (Ok (Some n)) after = Ok (Some (n, after))
number_answer (Err e) after = Err e
