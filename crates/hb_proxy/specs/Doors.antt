-- A trace without the calls at doors that gave nothing and without the looks that found a link fine: by none of them is a link another one.
use Rattle.std.specs.Prelude.{◌≡◌, ℕ, Bool, true, false, not, List, filter}
use Rattle.hb_world.specs.declared.entry.Entry.{Entry}
use Rattle.hb_world.specs.declared.entry.Entry.TheVariants as e
use Rattle.hb_world.specs.declared.entry.Way.TheVariants as way
use Rattle.hb_world.specs.Trace.{births, lives, was_shut}
use Rattle.hb_ready.specs.Sight.{is_open}

-- a listen, or an accept that gave no link; a look at a link stands with them, since no machine is told of it
abbrev pub is_at_door : Entry → Bool
is_at_door (e.Balked (way.Listen door to listening)) = true
is_at_door (e.Balked (way.Accept door)) = true
is_at_door (e.Balked (way.Look l)) = true
is_at_door _ = false

abbrev pub without_doors : List Entry → List Entry
without_doors trace = filter (λ z. not (is_at_door z)) trace

-- two traces tell the same of links: how many were born; and of each whether it lives, is open, and was shut
pub record TellSame (trace other : List Entry) : Type 0 where
  pub births : births other ≡ births trace
  pub lives : (l : ℕ) → lives l other ≡ lives l trace
  pub is_open : (l : ℕ) → is_open l other ≡ is_open l trace
  pub was_shut : (l : ℕ) → was_shut l other ≡ was_shut l trace

abbrev pub DoorsTellNone : Type 0
DoorsTellNone = (trace : List Entry) → TellSame trace (without_doors trace)
