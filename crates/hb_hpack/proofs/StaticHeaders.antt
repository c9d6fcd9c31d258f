-- What the checker computes of the static table.
use Rattle.std.proofs.Common.{◌≡◌, length, map, refl}
use Rattle.hb_hpack.specs.StaticTable.{static_headers}
use Rattle.hb_hpack.specs.declared.static_table.TheConstants.{NAME_LENGTHS}

pub static_count : length static_headers ≡ 61
unfolding static_headers
static_count = refl

-- the lengths that are kept are those of the names
pub name_lengths : map (λ h. length h.name) static_headers ≡ NAME_LENGTHS
unfolding static_headers
name_lengths = refl
