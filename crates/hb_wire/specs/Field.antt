-- Fields (Protocol Buffers encoding guide, "Message Structure").
use Rattle.std.specs.Prelude.{ℕ, ◌+◌, ◌/◌, ◌%◌, ◌==◌, Bool, ◌&&◌, nat_lt, List, length, take, drop, Option, Some, None, Result, Ok, Err, if◌then◌else◌}
use Rattle.std.specs.Int.{w32, w64, from_le_bytes}
use Rattle.hb_wire.specs.declared.fault.WireFault.{WireFault}
use Rattle.hb_wire.specs.declared.fault.WireWhy.{WireWhy}
use Rattle.hb_wire.specs.declared.fault.WireWhy.TheVariants.{Truncated, BadNumber, BadType}
use Rattle.hb_wire.specs.Varint.{varint_at}
use Rattle.hb_wire.specs.WireType.{varint_type, eight_type, span_type, is_wire_type}

-- bytes that aren't read yet, and the place at which they stand
pub record Unread : Type 0 where
  pub at : ℕ
  pub left : List ℕ

-- a field's value, by its wire type
pub data Value : Type 0 where
  varint : ℕ → Value
  eight : ℕ → Value
  span : List ℕ → Value
  four : ℕ → Value

-- A field without where it lies in memory. Its place is that of its value's first byte, of a span's behind the length.
pub record Content : Type 0 where
  pub number : ℕ
  pub at : ℕ
  pub value : Value

infixl 10 ◌>>=◌
abbrev pub ◌>>=◌ : {A B : Type 0} → Result A WireFault → (A → Result B WireFault) → Result B WireFault
(Ok x) >>= f = f x
(Err e) >>= f = Err e

abbrev pub fault : {A : Type 0} → ℕ → WireWhy → Result A WireFault
fault at why = Err (record { at = at; why = why })

-- what is unread behind the first n bytes
abbrev pub behind : ℕ → Unread → Unread
behind n u = record { at = u.at + n; left = drop n u.left }

-- the varint in front, and what is unread behind it
unfoldable pub varint_in : Unread → Result (ℕ × Unread) WireFault
varint_in u = do
  v ← varint_at u.left u.at 0
  Ok (v.value, behind v.length u)

-- the first n bytes, and what is unread behind them
unfoldable pub bytes_in : ℕ → Unread → Result (List ℕ × Unread) WireFault
bytes_in n u = if nat_lt (length u.left) n then fault (u.at + length u.left) Truncated else Ok (take n u.left, behind n u)

-- the number of the first eight bytes, or of the first four, the least first, and what is unread behind them
abbrev pub eight_in : Unread → Result (ℕ × Unread) WireFault
eight_in u = do
  b ← bytes_in 8 u
  Ok (from_le_bytes w64 b.0, b.1)

abbrev pub four_in : Unread → Result (ℕ × Unread) WireFault
four_in u = do
  b ← bytes_in 4 u
  Ok (from_le_bytes w32 b.0, b.1)

-- The value of a field of this number, the tag of which was read, by its wire type.
abbrev pub varint_value : ℕ → Unread → Result (Content × Unread) WireFault
varint_value number u = do
  n ← varint_in u
  Ok (record { number = number; at = u.at; value = varint n.0 }, n.1)

abbrev pub eight_value : ℕ → Unread → Result (Content × Unread) WireFault
eight_value number u = do
  n ← eight_in u
  Ok (record { number = number; at = u.at; value = eight n.0 }, n.1)

abbrev pub span_value : ℕ → Unread → Result (Content × Unread) WireFault
span_value number u = do
  n ← varint_in u
  b ← bytes_in n.0 n.1
  Ok (record { number = number; at = n.1.at; value = span b.0 }, b.1)

abbrev pub four_value : ℕ → Unread → Result (Content × Unread) WireFault
four_value number u = do
  n ← four_in u
  Ok (record { number = number; at = u.at; value = four n.0 }, n.1)

unfoldable pub value_in : ℕ → ℕ → Unread → Result (Content × Unread) WireFault
value_in number wire u =
    if wire == varint_type then varint_value number u
    else (if wire == eight_type then eight_value number u
    else (if wire == span_type then span_value number u
    else four_value number u))

abbrev pub is_number : ℕ → Bool
is_number n = nat_lt 0 n && nat_lt n 536870912

-- The field in front, and what is unread behind it. A tag is eight times the number, and the wire type.
unfoldable pub field_in : Unread → Result (Content × Unread) WireFault
field_in u = do
  tag ← varint_in u
  if is_number (tag.0 / 8)
      then (if is_wire_type (tag.0 % 8) then value_in (tag.0 / 8) (tag.0 % 8) tag.1 else fault u.at BadType)
      else fault u.at BadNumber

-- the next field, if a byte is left
abbrev pub next_in : Unread → Result (Option (Content × Unread)) WireFault
next_in u = if length u.left == 0 then Ok None else (field_in u >>= λ f. Ok (Some f))

-- the next number of varints that stand one behind the other, if a byte is left ("Packed Repeated Fields")
abbrev pub next_number_in : Unread → Result (Option (ℕ × Unread)) WireFault
next_number_in u = if length u.left == 0 then Ok None else (varint_in u >>= λ v. Ok (Some v))
