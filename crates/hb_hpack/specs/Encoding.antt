-- The block that the encoder writes for headers: a header of the static table is an index, a name of it a literal
-- without indexing under its smallest index, any other a literal with a new name.
use Rattle.std.specs.Prelude.{◌≡◌, ℕ, zero, suc, ◌+◌, ◌-◌, ◌/◌, ◌%◌, ◌^◌, ◌<◌, nat_lt, ◌==◌, ◌&&◌, Bool, true, false, List, [], ◌∷◌, ◌++◌, length, Option, Some, None, codes, slice_index_or, if◌then◌else◌}
use Rattle.std.specs.List.{flat_map, AllByRecursion}
use Rattle.std.specs.Str.{bytes_eq}
use Rattle.hb_hpack.specs.declared.header.Header.{Header}
use Rattle.hb_hpack.specs.declared.spelling.Spelling.{Spelling}
use Rattle.hb_hpack.specs.declared.spelling.Spelling.TheVariants as spellings
use Rattle.hb_hpack.specs.HuffmanSteps.{huffman_of}
use Rattle.hb_hpack.specs.Integer.{full}
use Rattle.hb_hpack.specs.StaticTable.{header, static_headers}
use Rattle.hb_base.specs.Groups.{groups_of}
use Rattle.hb_hpack.specs.Table.{Table}

-- the shortest bytes of an integer below 2 ^ 64
unfoldable pub integer_of : ℕ → ℕ → ℕ → List ℕ
integer_of prefix flag n = if nat_lt n (full prefix) then (flag + n) ∷ [] else (flag + full prefix) ∷ groups_of 10 (n - full prefix)

-- the bytes of a text, and the Huffman bit before their length
abbrev pub spelled : Spelling → List ℕ → List ℕ
spelled spellings.Plain text = text
spelled spellings.Huffman text = huffman_of text

abbrev pub bit_of : Spelling → ℕ
bit_of spellings.Plain = 0
bit_of spellings.Huffman = 128

unfoldable pub string_of : Spelling → List ℕ → List ℕ
string_of spelling text = integer_of 7 (bit_of spelling) (length (spelled spelling text)) ++ spelled spelling text

-- whether a header has the name, and whether it is the header
abbrev pub same_name : Header → Header → Bool
same_name h entry = bytes_eq entry.name h.name

abbrev pub same_header : Header → Header → Bool
same_header h entry = bytes_eq entry.name h.name && bytes_eq entry.value h.value

-- the header of the static table at a place, counted from 0
unfoldable pub static_at : ℕ → Header
static_at place = slice_index_or static_headers place (header [] [])

-- the index of the first header that meets the test; the first has the index i
unfoldable pub index_from : (Header → Bool) → ℕ → List Header → Option ℕ
index_from test i [] = None
index_from test i (h ∷ hs) = if test h then Some i else index_from test (suc i) hs

-- a literal without indexing, by what is known of its name
abbrev pub literal_of : Option ℕ → Spelling → Header → List ℕ
literal_of (Some i) spelling h = integer_of 4 0 i ++ string_of spelling h.value
literal_of None spelling h = (0 ∷ string_of spelling h.name) ++ string_of spelling h.value

-- the representation of a header, by what is known of it
abbrev pub representation_of : Option ℕ → Spelling → Header → List ℕ
representation_of (Some i) spelling h = integer_of 7 128 i
representation_of None spelling h = literal_of (index_from (same_name h) 1 static_headers) spelling h

unfoldable pub header_of : Spelling → Header → List ℕ
header_of spelling h = representation_of (index_from (same_header h) 1 static_headers) spelling h

-- how the encoder spells, and whether it has written a block
pub record Writing : Type 0 where
  pub spelling : Spelling
  pub started : Bool

-- the size update to 0 in front of the first block
abbrev pub opening : Bool → List ℕ
opening true = []
opening false = 32 ∷ []

-- the block of the headers
unfoldable pub block_of : Writing → List Header → List ℕ
block_of w hs = opening w.started ++ flat_map (header_of w.spelling) hs

-- the encoder behind its first block
abbrev pub going : Writing → Writing
going w = record { spelling = w.spelling; started = true }

-- the table behind each block
abbrev pub cleared : Table
cleared = record { entries = []; maximum = 0 }

-- the tables that a decoder of the blocks so far may have
abbrev pub MayHave : Bool → Table → Type 0
MayHave false table = Unit {0}
MayHave true table = table ≡ cleared

-- the text has a literal: an integer can say its length, and what is coded are octets
abbrev pub CanSpell : Spelling → List ℕ → Type 0
CanSpell spellings.Plain text = length text < 2 ^ 32
CanSpell spellings.Huffman text = (length (huffman_of text) < 2 ^ 32) × AllByRecursion (λ s. s < 256) text

-- each string of the headers has one
abbrev pub AreWritable : Spelling → List Header → Type 0
AreWritable spelling hs = AllByRecursion (λ h. CanSpell spelling h.name × CanSpell spelling h.value) hs

-- the text of a status of three digits, and its header
abbrev pub status_text : ℕ → List ℕ
status_text status = (48 + status / 100) ∷ (48 + status / 10 % 10) ∷ (48 + status % 10) ∷ []

abbrev pub status_header : ℕ → Header
status_header status = header (codes ":status") (status_text status)

-- the representation of a status: an index, or a literal behind the name's index
unfoldable pub status_of : ℕ → List ℕ
status_of status =
    if status == 200 then 136 ∷ []
    else (if status == 204 then 137 ∷ []
    else (if status == 206 then 138 ∷ []
    else (if status == 304 then 139 ∷ []
    else (if status == 400 then 140 ∷ []
    else (if status == 404 then 141 ∷ []
    else (if status == 500 then 142 ∷ []
    else 8 ∷ 3 ∷ status_text status))))))
