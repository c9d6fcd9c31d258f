-- How bytes spell the fields of a message (Protocol Buffers encoding guide), said without a reader.
use Rattle.std.specs.Prelude.{◌≡◌, ℕ, ◌+◌, ◌*◌, ◌^◌, ◌<◌, ◌≤◌, List, [], ◌∷◌, ◌++◌, length}
use Rattle.std.specs.Int.{w32, w64, from_le_bytes}
use Rattle.hb_wire.specs.Field.{Unread, Value, varint, eight, span, four, Content}
use Rattle.hb_wire.specs.WireType.{varint_type, eight_type, span_type, four_type}

abbrev pub IsOctet : ℕ → Type 0
IsOctet b = b < 256

-- Base 128: seven bits in each byte, the least first, and the top bit set in each byte but the last. A number may have
-- more bytes than it needs.
abbrev pub IsBase128 : List ℕ → ℕ → Type 0
IsBase128 [] n = ⊥
IsBase128 (byte ∷ []) n = (byte < 128) × (n ≡ byte)
IsBase128 (byte ∷ next ∷ bytes) n = (128 ≤ byte) × (byte < 256) × (high : ℕ) × (n + 128 ≡ byte + 128 * high)
    × IsBase128 (next ∷ bytes) high

-- a varint: a number of 64 bits, in at most ten bytes
pub record IsVarint (bytes : List ℕ) (n : ℕ) : Type 0 where
  pub base128 : IsBase128 bytes n
  pub few : length bytes ≤ 10
  pub small : n < 2 ^ 64

-- the wire type of a value
abbrev pub wire_type : Value → ℕ
wire_type (varint n) = varint_type
wire_type (eight n) = eight_type
wire_type (span own) = span_type
wire_type (four n) = four_type

-- The bytes behind a tag, which stand at a place, and the place of the value's own first byte: a varint; eight bytes or
-- four, the least first; or a length, which is a varint, and so many bytes.
abbrev pub SpellsValue : ℕ → List ℕ → ℕ → Value → Type 0
SpellsValue at bytes place (varint n) = (place ≡ at) × IsVarint bytes n
SpellsValue at bytes place (eight n) = (place ≡ at) × (length bytes ≡ 8) × (n ≡ from_le_bytes w64 bytes)
SpellsValue at bytes place (span own) = (size : List ℕ) × (place ≡ at + length size) × IsVarint size (length own) × (bytes ≡ size ++ own)
SpellsValue at bytes place (four n) = (place ≡ at) × (length bytes ≡ 4) × (n ≡ from_le_bytes w32 bytes)

-- A field: a tag, which is a varint of eight times the number and the wire type, and then the value.
pub record SpellsField (at : ℕ) (bytes : List ℕ) (f : Content) : Type 0 where
  pub tag : List ℕ
  pub behind : List ℕ
  pub cut : bytes ≡ tag ++ behind
  pub is_tag : IsVarint tag (8 * f.number + wire_type f.value)
  pub some : 0 < f.number
  pub small : f.number < 2 ^ 29
  pub value : SpellsValue (at + length tag) behind f.at f.value

-- a message that stands at a place: its fields, one after the other
abbrev pub SpellsMessage : ℕ → List ℕ → List Content → Type 0
SpellsMessage at bytes [] = bytes ≡ []
SpellsMessage at bytes (f ∷ fs) = (front : List ℕ) × (behind : List ℕ) × (bytes ≡ front ++ behind) × SpellsField at front f
    × SpellsMessage (at + length front) behind fs

-- no field is in front of the bytes at a place
abbrev pub NoField : ℕ → List ℕ → Type 0
NoField at bytes = (front behind : List ℕ) (f : Content) → bytes ≡ front ++ behind → SpellsField at front f → ⊥

-- what is unread begins with a field, and what is behind it is unread after it
abbrev pub SpellsNext : Unread → Content → Unread → Type 0
SpellsNext u f v = (front : List ℕ) × (u.left ≡ front ++ v.left) × (v.at ≡ u.at + length front) × SpellsField u.at front f
