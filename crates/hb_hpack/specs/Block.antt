-- Header blocks (RFC 7541 sections 3 and 6): the headers that they stand for.
use Rattle.std.specs.Prelude.{◌≡◌, ℕ, ◌≤◌, List, [], ◌∷◌, ◌++◌, Some}
use Rattle.hb_hpack.specs.declared.header.Header.{Header}
use Rattle.hb_hpack.specs.Integer.{IsInteger}
use Rattle.hb_hpack.specs.Literal.{IsString}
use Rattle.hb_hpack.specs.Table.{Table, added, resized, entry_at}

-- the bytes name the header's name: by an index, or by index 0 and a literal
pub data IsName (table : Table) (prefix flag : ℕ) (name bytes : List ℕ) : Type 0 where
  indexed : (i : ℕ) (entry : Header) → IsInteger prefix flag i bytes → entry_at table i ≡ Some entry → name ≡ entry.name
      → IsName table prefix flag name bytes
  new : (front text : List ℕ) → IsInteger prefix flag 0 front → IsString name text → bytes ≡ front ++ text
      → IsName table prefix flag name bytes

-- the bytes are a literal header (section 6.2)
pub data IsLiteral (table : Table) (prefix flag : ℕ) (h : Header) (bytes : List ℕ) : Type 0 where
  literal : (front text : List ℕ) → IsName table prefix flag h.name front → IsString h.value text → bytes ≡ front ++ text
      → IsLiteral table prefix flag h bytes

-- the bytes represent the header, and lead from the table to next (section 6)
pub data Represents (table : Table) (bytes : List ℕ) (h : Header) (next : Table) : Type 0 where
  -- an entry of a table (6.1)
  indexed : (i : ℕ) → IsInteger 7 128 i bytes → entry_at table i ≡ Some h → next ≡ table → Represents table bytes h next
  -- a literal that enters the table (6.2.1)
  entered : IsLiteral table 6 64 h bytes → next ≡ added table h → Represents table bytes h next
  -- one that doesn't (6.2.2)
  passed : IsLiteral table 4 0 h bytes → next ≡ table → Represents table bytes h next
  -- one that never may (6.2.3)
  never : IsLiteral table 4 16 h bytes → next ≡ table → Represents table bytes h next

-- the bytes are the headers' representations, one after another
abbrev pub ReadsHeaders : Table → List ℕ → List Header → Table → Type 0
ReadsHeaders table block [] next = (block ≡ []) × (next ≡ table)
ReadsHeaders table block (h ∷ hs) next =
    (bytes : List ℕ) × (rest : List ℕ) × (mid : Table) × (block ≡ bytes ++ rest) × Represents table bytes h mid
    × ReadsHeaders mid rest hs next

-- the same behind size updates to these maxima, each at most 4,096 (sections 4.2 and 6.3)
abbrev pub ReadsBehind : List ℕ → Table → List ℕ → List Header → Table → Type 0
ReadsBehind [] table block hs next = ReadsHeaders table block hs next
ReadsBehind (n ∷ ns) table block hs next =
    (bytes : List ℕ) × (rest : List ℕ) × (block ≡ bytes ++ rest) × IsInteger 5 32 n bytes × (n ≤ 4096)
    × ReadsBehind ns (resized table n) rest hs next

-- the block stands for the headers, and leads from the table to next
abbrev pub Reads : Table → List ℕ → List Header → Table → Type 0
Reads table block hs next = (sizes : List ℕ) × ReadsBehind sizes table block hs next
