-- What one value makes of the count of places.
use Rattle.std.proofs.Common.{◌≡◌, ℕ, ◌<◌, ◌≤◌, ◌^◌, true, false, Option, Some, None, refl, ap, sym, subst, ◌∙◌, arith}
use Rattle.std.specs.Ordering.{nat_cmp}
use Rattle.std.specs.FinMap.{FinMap, empty, get, insert, get-empty}
use Rattle.hb_map.proofs.Laws.{put_here, put_elsewhere}
use Rattle.hb_counted.specs.declared.classes.Classes.{Classes}
use Rattle.hb_counted.specs.declared.counts.Counts.{Counts}
use Rattle.hb_counted.specs.Classes.{in_none, one_if, classes_in, counts_of, shift, moved}
use Rattle.hb_counted.specs.Laws.{its_own, NoneAreCounted, AddsOne, CountsNone, AddsTwo, KeepsItsCount}
use Rattle.hb_counted.proofs.Counting.{counts_same, counts_moved, counts_never, allows_all}

abbrev plain : FinMap nat_cmp Classes → ℕ → Classes
plain m n = classes_in its_own (get m n)

pub none_counted : NoneAreCounted
none_counted = counts_same (plain empty) (λ q. in_none) (λ q. ap (classes_in its_own) (get-empty nat_cmp q)) ∙ counts_never

module _ (m : FinMap nat_cmp Classes) (n : ℕ) (item : Classes) (fits : n < 2 ^ 32) where
  inserted : moved (counts_of its_own m) (plain m n) item ≡ counts_of its_own (insert m n item)
  inserted =
      ap (λ (c : Classes). moved (counts_of its_own m) (plain m n) c) (sym (ap (classes_in its_own) (put_here m n item)))
      ∙ counts_moved (plain m) (plain (insert m n item)) n fits (λ q apart. sym (ap (classes_in its_own) (put_elsewhere m n item q apart)))

  places : (o : Option Classes) → get m n ≡ o
      → (counts_of its_own (insert m n item)).places ≡ shift (counts_of its_own m).places (classes_in its_own o).place item.place
  places o is =
      sym (ap (λ (c : Counts). c.places) inserted)
      ∙ ap (λ (o : Option Classes). shift (counts_of its_own m).places (classes_in its_own o).place item.place) is

  counted : (o : Option Classes) → get m n ≡ o → one_if (classes_in its_own o).place ≤ (counts_of its_own m).places
  counted o is =
      subst (λ (o : Option Classes). one_if (classes_in its_own o).place ≤ (counts_of its_own m).places) is
      (allows_all (plain m) n fits).places.0

pub adds_one : AddsOne
adds_one m n item fits none takes =
    let after = places m n item fits None none in
    let one = ap one_if takes in
    omega (arith, after, one)

abbrev example : Classes
example = record { place = true; marked = false; due = false; puts = false; ends = false }

pub not_none : CountsNone
not_none all =
    let wrong = all empty 0 example (omega arith) (get-empty nat_cmp 0) refl in
    let right = adds_one empty 0 example (omega arith) (get-empty nat_cmp 0) refl in
    omega (arith, wrong, right)

pub not_two : AddsTwo
not_two all =
    let wrong = all empty 0 example (omega arith) (get-empty nat_cmp 0) refl in
    let right = adds_one empty 0 example (omega arith) (get-empty nat_cmp 0) refl in
    omega (arith, wrong, right)

pub not_kept : KeepsItsCount
not_kept m n item other fits there takes leaves wrong =
    let after = places m n other fits (Some item) there in
    let some = counted m n other fits (Some item) there in
    let one = ap one_if takes in
    let none = ap one_if leaves in
    omega (arith, after, some, one, none, wrong)
