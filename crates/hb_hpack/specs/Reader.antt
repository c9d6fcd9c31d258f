-- How a block is read from left to right, up to its first fault: what the contracts of the reader's own functions cite.
use Rattle.std.specs.Prelude.{◌≡◌, ℕ, zero, suc, ◌+◌, ◌*◌, ◌%◌, ◌^◌, nat_lt, nat_le, ◌==◌, ◌&&◌, Bool, false, List, [], ◌∷◌, ◌++◌, length, take, drop, Option, Some, None, Result, Ok, Err, if◌then◌else◌}
use Rattle.std.specs.Borrow.{Bor}
use Rattle.hb_base.specs.declared.or.Or.{Or}
use Rattle.hb_base.specs.declared.or.Or.TheVariants as or
use Rattle.hb_hpack.specs.declared.header.Header.{Header}
use Rattle.hb_hpack.specs.declared.header.HeaderList.{HeaderList}
use Rattle.hb_hpack.specs.declared.octets.Octets.{Octets}
use Rattle.hb_hpack.specs.declared.octets.Octets.TheVariants.{Standing, Decoded}
use Rattle.hb_hpack.specs.declared.fault.Stop.{Stop}
use Rattle.hb_hpack.specs.declared.fault.HpackWhy.TheVariants.{BadIndex, LongInteger, Truncated, BadHuffman, BadSize, LateSize}
use Rattle.hb_hpack.specs.Outcome.{stop, ◌>>=◌}
use Rattle.hb_hpack.specs.Integer.{full}
use Rattle.hb_hpack.specs.HuffmanSteps.{text_of}
use Rattle.hb_hpack.specs.StaticTable.{header}
use Rattle.hb_hpack.specs.Table.{Table, added, resized, entry_at}
use Rattle.hb_hpack.specs.Decoded.{IsListOf}

-- ---- integers

-- the groups from the one of this weight on, behind groups that make n: at most so many are left
unfoldable pub groups_from : ℕ → ℕ → ℕ → List ℕ → Result (ℕ × List ℕ) Stop
groups_from left weight n [] = Err (stop 0 Truncated)
groups_from zero weight n (b ∷ bs) = Err (stop (suc (length bs)) LongInteger)
groups_from (suc left) weight n (b ∷ bs) =
    if nat_lt (n + b % 128 * weight) (2 ^ 32)
    then (if nat_lt b 128 then Ok (n + b % 128 * weight, bs) else groups_from left (128 * weight) (n + b % 128 * weight) bs)
    else Err (stop (suc (length bs)) LongInteger)

-- the integer in front, and the bytes behind it
unfoldable pub integer_at : ℕ → List ℕ → Result (ℕ × List ℕ) Stop
integer_at prefix [] = Err (stop 0 Truncated)
integer_at prefix (b ∷ bs) =
    if nat_lt (b % 2 ^ prefix) (full prefix) then Ok (b % 2 ^ prefix, bs) else groups_from 5 1 (full prefix) bs

-- ---- string literals

-- the text, and the bytes behind it; a fault of the code has so many bytes left
abbrev pub coded_at : ℕ → Option (List ℕ) → List ℕ → Result (List ℕ × List ℕ) Stop
coded_at left None rest = Err (stop left BadHuffman)
coded_at left (Some text) rest = Ok (text, rest)

-- the literal in front, and the bytes behind it
unfoldable pub string_at : List ℕ → Result (List ℕ × List ℕ) Stop
string_at [] = Err (stop 0 Truncated)
string_at (b ∷ bs) = do
  n ← integer_at 7 (b ∷ bs)
  if nat_lt (length n.1) n.0 then Err (stop 0 Truncated)
      else (if nat_lt b 128 then Ok (take n.0 n.1, drop n.0 n.1) else coded_at (length (b ∷ bs)) (text_of (take n.0 n.1)) (drop n.0 n.1))

-- the octets of a name or a value, wherever they stand
abbrev pub octets : Octets → List ℕ
octets (Standing bytes) = bytes.now
octets (Decoded bytes) = bytes

-- ---- representations, headers and size updates

-- the entry of an index, whose last byte is the one before rest
abbrev pub entry_or : Option Header → List ℕ → Result Header Stop
entry_or None rest = Err (stop (length rest + 1) BadIndex)
entry_or (Some h) rest = Ok h

-- a name, and the bytes behind it
unfoldable pub name_at : Table → ℕ → List ℕ → Result (List ℕ × List ℕ) Stop
name_at table prefix bytes = do
  i ← integer_at prefix bytes
  if i.0 == 0 then string_at i.1 else (entry_or (entry_at table i.0) i.1 >>= λ h. Ok (h.name, i.1))

-- a literal header, and the bytes behind it
unfoldable pub literal_at : Table → ℕ → List ℕ → Result (Header × List ℕ) Stop
literal_at table prefix bytes = do
  name ← name_at table prefix bytes
  value ← string_at name.1
  Ok (header name.0 value.0, value.1)

-- an indexed header, and the bytes behind it
unfoldable pub indexed_at : Table → List ℕ → Result (Header × List ℕ) Stop
indexed_at table bytes = do
  i ← integer_at 7 bytes
  entry_or (entry_at table i.0) i.1 >>= λ h. Ok (h, i.1)

-- what one representation gives
pub record Field : Type 0 where
  pub header : Header
  pub next : Table
  pub rest : List ℕ

abbrev pub field : Header → Table → List ℕ → Field
field h next rest = record { header = h; next = next; rest = rest }

-- a literal header that enters the table
abbrev pub entered_at : Table → List ℕ → Result Field Stop
entered_at table bytes = literal_at table 6 bytes >>= λ l. Ok (field l.0 (added table l.0) l.1)

-- the representation in front
unfoldable pub field_at : Table → List ℕ → Result Field Stop
field_at table [] = Err (stop 0 Truncated)
field_at table (b ∷ bs) =
    if nat_le 128 b then (indexed_at table (b ∷ bs) >>= λ l. Ok (field l.0 table l.1))
    else (if nat_le 64 b then entered_at table (b ∷ bs)
    else (if nat_le 32 b then Err (stop (length (b ∷ bs)) LateSize)
    else (literal_at table 4 (b ∷ bs) >>= λ l. Ok (field l.0 table l.1))))

-- a header in front of what is read behind it
abbrev pub with_header : Header → Result (List Header × Table) Stop → Result (List Header × Table) Stop
with_header h (Ok r) = Ok (h ∷ r.0, r.1)
with_header h (Err e) = Err e

-- headers to the end, of at most so many representations
unfoldable pub headers_at : ℕ → Table → List ℕ → Result (List Header × Table) Stop
headers_at most table [] = Ok ([], table)
headers_at zero table (b ∷ bs) = Err (stop 0 Truncated)
headers_at (suc most) table (b ∷ bs) =
    field_at table (b ∷ bs) >>= λ f. with_header f.header (headers_at most f.next f.rest)

-- whether the byte begins a size update
abbrev pub is_update : List ℕ → Bool
is_update [] = false
is_update (b ∷ bs) = nat_le 32 b && nat_lt b 64

-- a size update's maximum, and the bytes behind it
unfoldable pub update_at : List ℕ → Result (ℕ × List ℕ) Stop
update_at bytes = do
  n ← integer_at 5 bytes
  if nat_le n.0 4096 then Ok n else Err (stop (length n.1 + 1) BadSize)

-- the table and the bytes behind the size updates in front, of which there are at most so many
unfoldable pub updates_at : ℕ → Table → List ℕ → Result (Table × List ℕ) Stop
updates_at zero table bytes = Ok (table, bytes)
updates_at (suc most) table bytes =
    if is_update bytes then (update_at bytes >>= λ n. updates_at most (resized table n.0) n.1) else Ok (table, bytes)

-- the headers of a block and the table behind it, or the first fault
unfoldable pub block_at : Table → List ℕ → Result (List Header × Table) Stop
block_at table block = updates_at (length block) table block >>= λ u. headers_at (length u.1) u.0 u.1

-- ---- what the functions answer

-- The answer to a representation is the bytes behind it, where it gives a header that the list and the table got,
-- or its fault, want of memory aside.
abbrev pub Adds : HeaderList → HeaderList → Table → Result (Bor (List ℕ)) (Or Stop) → Result Field Stop → Type 0
Adds old new table (Ok rest) read =
    (h : Header) × (read ≡ Ok (field h table rest.now))
    × ((headers : List Header) → IsListOf headers old → IsListOf (headers ++ h ∷ []) new)
Adds old new table (Err (or.Fault s)) read = read ≡ Err s
Adds old new table (Err or.NoMemory) read = Unit {0}

-- headers in front of what is read behind them
abbrev pub with_headers : List Header → Result (List Header × Table) Stop → Result (List Header × Table) Stop
with_headers front (Ok r) = Ok (front ++ r.0, r.1)
with_headers front (Err e) = Err e

-- the answer, with the table behind it, is what reading gives, want of memory aside
abbrev pub GivesList : Table → Result HeaderList (Or Stop) → Result (List Header × Table) Stop → Type 0
GivesList next (Ok list) read = (headers : List Header) × (read ≡ Ok (headers, next)) × IsListOf headers list
GivesList next (Err (or.Fault s)) read = read ≡ Err s
GivesList next (Err or.NoMemory) read = Unit {0}
