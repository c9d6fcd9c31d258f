-- A trace that is kept.
use Rattle.std.specs.Prelude.{ℕ, List}
use Rattle.hb_world.specs.declared.entry.Entry.{Entry}

-- the entries, and for how many more there is room
pub record Kept : Type 0 where
  pub entries : List Entry
  pub owed : ℕ
