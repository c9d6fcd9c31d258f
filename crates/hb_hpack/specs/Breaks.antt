-- What is wrong with a block that stands for no headers, and where (RFC 7541), said without a reader. A place is counted
-- from the front of the bytes that are spoken of.
use Rattle.std.specs.Prelude.{◌≡◌, ℕ, ◌+◌, ◌*◌, ◌%◌, ◌^◌, ◌<◌, ◌≤◌, ◌⊎◌, List, [], ◌∷◌, ◌++◌, length, None}
use Rattle.std.specs.List.{AllByRecursion}
use Rattle.hb_hpack.specs.declared.header.Header.{Header}
use Rattle.hb_hpack.specs.declared.fault.HpackWhy.{HpackWhy}
use Rattle.hb_hpack.specs.declared.fault.HpackWhy.TheVariants.{BadIndex, LongInteger, Truncated, BadHuffman, BadSize, LateSize}
use Rattle.hb_hpack.specs.Integer.{full, IsInteger}
use Rattle.hb_hpack.specs.Huffman.{Spells}
use Rattle.hb_hpack.specs.Table.{Table, entry_at}
use Rattle.hb_hpack.specs.Block.{IsName, Reads}

-- the number that groups of seven bits make, least first
abbrev pub number_of : List ℕ → ℕ
number_of [] = 0
number_of (b ∷ bs) = b % 128 + 128 * number_of bs

-- Groups behind a prefix that is all ones, with another one to come (section 5.1): the top bit is set on each, they are
-- at most five, and the integer so far is below 2 ^ 32.
pub record GoOn (prefix : ℕ) (groups : List ℕ) : Type 0 where
  pub on : AllByRecursion (λ b. 128 ≤ b) groups
  pub few : length groups ≤ 5
  pub small : full prefix + number_of groups < 2 ^ 32

-- Where an integer should be, the bytes end before its last group; or a sixth group follows, or one that takes it past
-- 2 ^ 32 - 1.
pub data BreaksInteger (prefix flag : ℕ) (bytes : List ℕ) (at : ℕ) (why : HpackWhy) : Type 0 where
  integer_ends : (groups : List ℕ) → bytes ≡ (flag + full prefix) ∷ groups → GoOn prefix groups
      → at ≡ length bytes → why ≡ Truncated → BreaksInteger prefix flag bytes at why
  integer_too_long : (groups : List ℕ) (group : ℕ) (behind : List ℕ) → bytes ≡ (flag + full prefix) ∷ (groups ++ group ∷ behind)
      → GoOn prefix groups → (length groups ≡ 5) ⊎ (2 ^ 32 ≤ full prefix + number_of (groups ++ group ∷ []))
      → at ≡ 1 + length groups → why ≡ LongInteger → BreaksInteger prefix flag bytes at why

-- the Huffman bit before a literal's length
abbrev pub IsHuffmanBit : ℕ → Type 0
IsHuffmanBit bit = (bit ≡ 0) ⊎ (bit ≡ 128)

-- Where a string literal should be, no byte is left; or its length is broken; or the bytes end before its last one; or
-- no text has its bytes as its spelling (section 5.2).
pub data BreaksString (bytes : List ℕ) (at : ℕ) (why : HpackWhy) : Type 0 where
  no_string : bytes ≡ [] → at ≡ 0 → why ≡ Truncated → BreaksString bytes at why
  in_length : (bit : ℕ) → IsHuffmanBit bit → BreaksInteger 7 bit bytes at why → BreaksString bytes at why
  string_ends : (bit n : ℕ) (front behind : List ℕ) → IsHuffmanBit bit → bytes ≡ front ++ behind → IsInteger 7 bit n front
      → length behind < n → at ≡ length bytes → why ≡ Truncated → BreaksString bytes at why
  no_text : (front data' behind : List ℕ) → bytes ≡ front ++ (data' ++ behind) → IsInteger 7 128 (length data') front
      → ((text : List ℕ) → Spells data' text → ⊥) → at ≡ 0 → why ≡ BadHuffman → BreaksString bytes at why

-- behind a front, a string literal is broken, at a place counted from that front's first byte
abbrev pub BreaksStringBehind : List ℕ → List ℕ → ℕ → HpackWhy → Type 0
BreaksStringBehind front behind at why = (inner : ℕ) × BreaksString behind inner why × (at ≡ length front + inner)

-- Where a header's name should be, the index is broken; or it has no entry; or it is 0, and the literal behind it is broken.
pub data BreaksName (table : Table) (prefix flag : ℕ) (bytes : List ℕ) (at : ℕ) (why : HpackWhy) : Type 0 where
  in_index : BreaksInteger prefix flag bytes at why → BreaksName table prefix flag bytes at why
  no_entry : (i : ℕ) (front behind : List ℕ) → bytes ≡ front ++ behind → IsInteger prefix flag i front → 0 < i → entry_at table i ≡ None
      → at + 1 ≡ length front → why ≡ BadIndex → BreaksName table prefix flag bytes at why
  in_new : (front behind : List ℕ) → bytes ≡ front ++ behind → IsInteger prefix flag 0 front → BreaksStringBehind front behind at why
      → BreaksName table prefix flag bytes at why

-- Where a literal header should be (section 6.2), its name is broken, or its value.
pub data BreaksLiteral (table : Table) (prefix flag : ℕ) (bytes : List ℕ) (at : ℕ) (why : HpackWhy) : Type 0 where
  in_name : BreaksName table prefix flag bytes at why → BreaksLiteral table prefix flag bytes at why
  in_value : (name front behind : List ℕ) → bytes ≡ front ++ behind → IsName table prefix flag name front
      → BreaksStringBehind front behind at why → BreaksLiteral table prefix flag bytes at why

-- Where a header's representation should be (section 6), the index is broken, or has no entry, or a literal is broken.
pub data BreaksHeader (table : Table) (bytes : List ℕ) (at : ℕ) (why : HpackWhy) : Type 0 where
  in_indexed : BreaksInteger 7 128 bytes at why → BreaksHeader table bytes at why
  no_header : (i : ℕ) (front behind : List ℕ) → bytes ≡ front ++ behind → IsInteger 7 128 i front → entry_at table i ≡ None
      → at + 1 ≡ length front → why ≡ BadIndex → BreaksHeader table bytes at why
  in_entered : BreaksLiteral table 6 64 bytes at why → BreaksHeader table bytes at why
  in_passed : BreaksLiteral table 4 0 bytes at why → BreaksHeader table bytes at why
  in_never : BreaksLiteral table 4 16 bytes at why → BreaksHeader table bytes at why

-- Where a size update should be (section 6.3), its maximum is broken, or above 4,096.
pub data BreaksUpdate (bytes : List ℕ) (at : ℕ) (why : HpackWhy) : Type 0 where
  in_maximum : BreaksInteger 5 32 bytes at why → BreaksUpdate bytes at why
  too_large : (n : ℕ) (front behind : List ℕ) → bytes ≡ front ++ behind → IsInteger 5 32 n front → 4096 < n
      → at + 1 ≡ length front → why ≡ BadSize → BreaksUpdate bytes at why

-- The block stands for these headers up to a place, and is broken there: in a size update, before any header; in a
-- header; or by a size update that comes after a header (section 4.2).
pub data BreaksAt (table : Table) (block : List ℕ) (at : ℕ) (why : HpackWhy) : Type 0 where
  in_update : (front behind : List ℕ) (mid : Table) (inner : ℕ) → block ≡ front ++ behind → Reads table front [] mid
      → BreaksUpdate behind inner why → at ≡ length front + inner → BreaksAt table block at why
  in_header : (front behind : List ℕ) (hs : List Header) (mid : Table) (inner : ℕ) → block ≡ front ++ behind → Reads table front hs mid
      → BreaksHeader mid behind inner why → at ≡ length front + inner → BreaksAt table block at why
  late_update : (front : List ℕ) (b : ℕ) (behind : List ℕ) (h : Header) (hs : List Header) (mid : Table) → block ≡ front ++ b ∷ behind
      → Reads table front (h ∷ hs) mid → 32 ≤ b → b < 64 → at ≡ length front → why ≡ LateSize → BreaksAt table block at why
