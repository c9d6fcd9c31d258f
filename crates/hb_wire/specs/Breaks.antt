-- What is wrong with bytes that no field is in front of, and where (Protocol Buffers encoding guide), said without a
-- reader.
use Rattle.std.specs.Prelude.{◌≡◌, ℕ, ◌+◌, ◌/◌, ◌%◌, ◌^◌, ◌<◌, ◌≤◌, ◌⊎◌, List, [], ◌∷◌, ◌++◌, length, Option, Some, None}
use Rattle.std.specs.List.{All}
use Rattle.hb_wire.specs.declared.fault.WireFault.{WireFault}
use Rattle.hb_wire.specs.declared.fault.WireWhy.{WireWhy}
use Rattle.hb_wire.specs.declared.fault.WireWhy.TheVariants.{Truncated, LongVarint, BadNumber, BadType}
use Rattle.hb_wire.specs.Field.{Content}
use Rattle.hb_wire.specs.WireType.{varint_type, eight_type, span_type, four_type}
use Rattle.hb_wire.specs.Spelling.{IsVarint, SpellsMessage}

-- a fault's place and kind
abbrev pub Tells : WireFault → ℕ → WireWhy → Type 0
Tells fault at why = (fault.at ≡ at) × (fault.why ≡ why)

-- the top bit of a byte says that the varint goes on
abbrev pub GoesOn : ℕ → Type 0
GoesOn byte = 128 ≤ byte

-- Where a varint should be, the bytes end before its last byte, or its tenth byte is above 1.
pub data BreaksVarint (at : ℕ) (bytes : List ℕ) (fault : WireFault) : Type 0 where
  varint_ends : length bytes < 10 → All GoesOn bytes → Tells fault (at + length bytes) Truncated → BreaksVarint at bytes fault
  varint_too_long : (nine : List ℕ) (tenth : ℕ) (behind : List ℕ) → bytes ≡ nine ++ tenth ∷ behind → length nine ≡ 9 → All GoesOn nine
      → 1 < tenth
      → Tells fault (at + 9) LongVarint → BreaksVarint at bytes fault

-- Where a value of this wire type should be, there is no varint, or the bytes end before its last byte.
pub data BreaksValue (at : ℕ) (bytes : List ℕ) (wire : ℕ) (fault : WireFault) : Type 0 where
  in_varint : wire ≡ varint_type → BreaksVarint at bytes fault → BreaksValue at bytes wire fault
  in_eight : wire ≡ eight_type → length bytes < 8 → Tells fault (at + length bytes) Truncated → BreaksValue at bytes wire fault
  in_length : wire ≡ span_type → BreaksVarint at bytes fault → BreaksValue at bytes wire fault
  in_span : (size : List ℕ) (behind : List ℕ) (n : ℕ) → wire ≡ span_type → bytes ≡ size ++ behind → IsVarint size n → length behind < n
      → Tells fault (at + length bytes) Truncated → BreaksValue at bytes wire fault
  in_four : wire ≡ four_type → length bytes < 4 → Tells fault (at + length bytes) Truncated → BreaksValue at bytes wire fault

abbrev pub IsNumber : ℕ → Type 0
IsNumber n = (0 < n) × (n < 2 ^ 29)

-- Where a field should be, there is no tag; or the tag's number is none; or it is one, and its wire type is none; or the
-- value is broken.
pub data BreaksField (at : ℕ) (bytes : List ℕ) (fault : WireFault) : Type 0 where
  in_tag : BreaksVarint at bytes fault → BreaksField at bytes fault
  bad_number : (tag behind : List ℕ) (n : ℕ) → bytes ≡ tag ++ behind → IsVarint tag n → (n / 8 ≡ 0) ⊎ (2 ^ 29 ≤ n / 8)
      → Tells fault at BadNumber
      → BreaksField at bytes fault
  bad_type : (tag behind : List ℕ) (n : ℕ) → bytes ≡ tag ++ behind → IsVarint tag n → IsNumber (n / 8)
      → (n % 8 ≡ 3) ⊎ (n % 8 ≡ 4) ⊎ (n % 8 ≡ 6) ⊎ (n % 8 ≡ 7) → Tells fault at BadType → BreaksField at bytes fault
  in_value : (tag behind : List ℕ) (n : ℕ) → bytes ≡ tag ++ behind → IsVarint tag n → IsNumber (n / 8)
      → BreaksValue (at + length tag) behind (n % 8) fault → BreaksField at bytes fault

-- how a message ends behind its fields: nothing is left, or what is left is broken
abbrev pub EndsWith : ℕ → List ℕ → Option WireFault → Type 0
EndsWith at bytes None = bytes ≡ []
EndsWith at bytes (Some fault) = (0 < length bytes) × BreaksField at bytes fault

-- The bytes at a place begin with these fields, and end so.
abbrev pub SpellsUpTo : ℕ → List ℕ → List Content → Option WireFault → Type 0
SpellsUpTo at bytes fields fault = (front : List ℕ) × (behind : List ℕ) × (bytes ≡ front ++ behind) × SpellsMessage at front fields
    × EndsWith (at + length front) behind fault
