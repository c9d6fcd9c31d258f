-- String literals (RFC 7541 section 5.2).
use Rattle.std.specs.Prelude.{◌≡◌, ℕ, List, ◌++◌, length}
use Rattle.hb_hpack.specs.Integer.{IsInteger}
use Rattle.hb_hpack.specs.Huffman.{Spells}

-- The bytes are a literal of the text: a length of seven bits behind the Huffman bit, and as many bytes, which are
-- the text or spell it.
pub data IsString (text bytes : List ℕ) : Type 0 where
  plain : (front : List ℕ) → IsInteger 7 0 (length text) front → bytes ≡ front ++ text → IsString text bytes
  coded : (front data' : List ℕ) → IsInteger 7 128 (length data') front → Spells data' text → bytes ≡ front ++ data' → IsString text bytes
