-- Where owned bytes are.
use Rattle.std.specs.Prelude.{ℕ, List}
use Rattle.hb_base.specs.declared.place.Place.{Place}
use Rattle.hb_base.specs.declared.place.Place.TheVariants.{Short, Long}

-- the bytes that are there
abbrev pub bytes_at : Place → List ℕ
bytes_at (Short bytes) = bytes
bytes_at (Long bytes) = bytes.items
