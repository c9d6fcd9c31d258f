-- What is kept of the lives of links.
use Rattle.std.specs.Prelude.{◌≡◌, ℕ, ◌-◌, ◌==◌, Bool, false, if◌then◌else◌, List, length, slice_get, Option, Some, None}
use Rattle.std.specs.List.{sum_by}
use Rattle.std.specs.Option.{is_some}
use Rattle.hb_world.specs.declared.entry.Entry.{Entry}
use Rattle.hb_world.specs.declared.trace.Life.{Life}
use Rattle.hb_world.specs.Trace.{births, was_born, was_shut, was_closed}

-- the life of a link, by its number; the first is that of link 1
abbrev pub life_of : List Life → ℕ → Option Life
life_of lives link = if link == 0 then None else slice_get lives (link - 1)

abbrev pub shut_in : Option Life → Bool
shut_in None = false
shut_in (Some l) = l.shut

abbrev pub closed_in : Option Life → Bool
closed_in None = false
closed_in (Some l) = l.closed

-- how many entries a link still owes: its Shut and its Closed
abbrev pub owed_by : Life → ℕ
owed_by l = if l.closed then 0 else (if l.shut then 1 else 2)

-- the lives are those of the links of a trace, and its entries are owed
pub record AreLives (lives : List Life) (owed : ℕ) (trace : List Entry) : Type 0 where
  pub count : births trace ≡ length lives
  pub born : (link : ℕ) → was_born link trace ≡ is_some (life_of lives link)
  pub shut : (link : ℕ) → was_shut link trace ≡ shut_in (life_of lives link)
  pub closed : (link : ℕ) → was_closed link trace ≡ closed_in (life_of lives link)
  pub owes : owed ≡ sum_by owed_by lives
