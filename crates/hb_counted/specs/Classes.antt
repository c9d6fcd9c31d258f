-- How many values of a map under numbers are in each class.
use Rattle.std.specs.Prelude.{ℕ, zero, suc, ◌+◌, ◌-◌, ◌≤◌, ◌^◌, Bool, false, if◌then◌else◌, Option, Some, None}
use Rattle.std.specs.Ordering.{nat_cmp}
use Rattle.std.specs.FinMap.{FinMap, get}
use Rattle.hb_counted.specs.declared.classes.Classes.{Classes}
use Rattle.hb_counted.specs.declared.counts.Counts.{Counts}

-- in none
abbrev pub in_none : Classes
in_none = record { place = false; marked = false; due = false; puts = false; ends = false }

-- none in any
abbrev pub of_none : Counts
of_none = record { places = 0; marked = 0; due = 0; puts = 0; ends = 0 }

-- one, or none
abbrev pub one_if : Bool → ℕ
one_if b = if b then 1 else 0

-- how many numbers meet a test, of those below one; and of all of 32 bits
abbrev pub how_many_below : (ℕ → Bool) → ℕ → ℕ
how_many_below test zero = 0
how_many_below test (suc n) = how_many_below test n + one_if (test n)

unfoldable pub how_many : (ℕ → Bool) → ℕ
how_many test = how_many_below test (2 ^ 32)

-- the numbers are in these classes: how many are in each
abbrev pub counts_by : (ℕ → Classes) → Counts
counts_by at = record {
  places = how_many (λ n. (at n).place);
  marked = how_many (λ n. (at n).marked);
  due = how_many (λ n. (at n).due);
  puts = how_many (λ n. (at n).puts);
  ends = how_many (λ n. (at n).ends);
}

module _ {T : Type 0} (classes : T → Classes) where
  -- a number that has no value is in none
  abbrev pub classes_in : Option T → Classes
  classes_in None = in_none
  classes_in (Some item) = classes item

  -- how many values of a map are in each
  abbrev pub counts_of : FinMap nat_cmp T → Counts
  counts_of m = counts_by (λ n. classes_in (get m n))

-- ONE VALUE MOVES

-- the count of a class in which one value was or was not, and now is or is not
abbrev pub shift : ℕ → (was is : Bool) → ℕ
shift count was is = count - one_if was + one_if is

abbrev pub moved : Counts → (was is : Classes) → Counts
moved counts was is = record {
  places = shift counts.places was.place is.place;
  marked = shift counts.marked was.marked is.marked;
  due = shift counts.due was.due is.due;
  puts = shift counts.puts was.puts is.puts;
  ends = shift counts.ends was.ends is.ends;
}

-- a value that was in the class is counted, and no more than all numbers are
abbrev pub Allows : ℕ → (was : Bool) → Type 0
Allows count was = (one_if was ≤ count) × (count ≤ 2 ^ 32)

pub record AllowsAll (counts : Counts) (was : Classes) : Type 0 where
  pub places : Allows counts.places was.place
  pub marked : Allows counts.marked was.marked
  pub due : Allows counts.due was.due
  pub puts : Allows counts.puts was.puts
  pub ends : Allows counts.ends was.ends
