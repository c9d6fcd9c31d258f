-- What a count of values is, and what it is not.
use Rattle.std.specs.Prelude.{◌≡◌, ℕ, ◌+◌, ◌<◌, ◌^◌, true, false, Some, None}
use Rattle.std.specs.Ordering.{nat_cmp}
use Rattle.std.specs.FinMap.{FinMap, empty, get, insert}
use Rattle.hb_counted.specs.declared.classes.Classes.{Classes}
use Rattle.hb_counted.specs.declared.starts.Starts.{Starts}
use Rattle.hb_counted.specs.Classes.{of_none, classes_in, counts_of}
use Rattle.hb_counted.specs.Starts.{AreStarts}

-- the values are their own classes
abbrev pub its_own : Classes → Classes
its_own item = item

-- no value: none in any class
abbrev pub NoneAreCounted : Type 0
NoneAreCounted = counts_of its_own (empty {R = nat_cmp}) ≡ of_none

-- a value under a new number that takes a place changes the count of places so
abbrev pub AddsTo : (change : ℕ → ℕ) → Type 0
AddsTo change = (m : FinMap nat_cmp Classes) (n : ℕ) (item : Classes) → n < 2 ^ 32 → get m n ≡ None → item.place ≡ true
    → (counts_of its_own (insert m n item)).places ≡ change (counts_of its_own m).places

-- it is one more, and neither none nor two
abbrev pub AddsOne : Type 0
AddsOne = AddsTo (λ count. count + 1)

abbrev pub CountsNone : Type 0
CountsNone = AddsTo (λ count. count) → ⊥

abbrev pub AddsTwo : Type 0
AddsTwo = AddsTo (λ count. count + 2) → ⊥

-- it takes none any more: the count isn't what it was
abbrev pub KeepsItsCount : Type 0
KeepsItsCount = (m : FinMap nat_cmp Classes) (n : ℕ) (item other : Classes) → n < 2 ^ 32 → get m n ≡ Some item → item.place ≡ true
    → other.place ≡ false → (counts_of its_own (insert m n other)).places ≡ (counts_of its_own m).places → ⊥

-- a walk may start at these numbers
abbrev pub StartsOf : FinMap nat_cmp Classes → Starts → Type 0
StartsOf m starts = AreStarts starts (λ q. classes_in its_own (get m q))

-- at that of the only value, and at none behind one that is in the class
abbrev pub StartsThere : Type 0
StartsThere = (n : ℕ) (item : Classes) → StartsOf (insert (empty {R = nat_cmp}) n item) (record { due = n; puts = n })

abbrev pub StartsBehind : Type 0
StartsBehind = (m : FinMap nat_cmp Classes) (n : ℕ) (item : Classes) (starts : Starts) → get m n ≡ Some item → item.due ≡ true
    → n < starts.due → StartsOf m starts → ⊥
