-- Headers, their sizes, and the dynamic table (RFC 7541 sections 2.3 and 4).
use Rattle.std.specs.Prelude.{ℕ, zero, suc, ◌+◌, ◌-◌, nat_le, nat_lt, List, [], ◌∷◌, length, Option, None, slice_get, if◌then◌else◌}
use Rattle.hb_hpack.specs.declared.header.Header.{Header}
use Rattle.hb_hpack.specs.StaticTable.{static_headers}

-- a header's size: its name, its value and 32 (section 4.1)
abbrev pub size_of : Header → ℕ
size_of h = length h.name + length h.value + 32

abbrev pub total : List Header → ℕ
total [] = 0
total (h ∷ hs) = size_of h + total hs

-- the longest front whose sizes sum to at most room
unfoldable pub fitting : ℕ → List Header → List Header
fitting room [] = []
fitting room (h ∷ hs) = if nat_le (size_of h) room then h ∷ fitting (room - size_of h) hs else []

-- the entries, the newest first, and the most that their sizes may sum to
pub record Table : Type 0 where
  pub entries : List Header
  pub maximum : ℕ

-- a header enters the table, and old ones leave it until the sum fits (section 4.4)
abbrev pub added : Table → Header → Table
added table h = record { entries = fitting table.maximum (h ∷ table.entries); maximum = table.maximum }

-- the table gets another maximum (section 4.3)
abbrev pub resized : Table → ℕ → Table
resized table n = record { entries = fitting n table.entries; maximum = n }

-- the header of an index: the static table has 1 to 61, the dynamic one those from 62 on (section 2.3.3)
unfoldable pub entry_at : Table → ℕ → Option Header
entry_at table zero = None
entry_at table (suc i) = if nat_lt i 61 then slice_get static_headers i else slice_get table.entries (i - 61)
