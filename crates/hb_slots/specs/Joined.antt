-- How an index of cells stands for a map. No public clause cites this file.
use Rattle.std.specs.Prelude.{◌≡◌, ℕ, ◌<◌, ◌^◌, List, [], ◌∷◌, Option, Some, None, IsSome}
use Rattle.std.specs.Ordering.{nat_cmp}
use Rattle.std.specs.FinMap.{FinMap, empty, entries, get, insert, remove}
use Rattle.slab.specs.Slab as slab
use Rattle.slab.specs.Slab.{Slab}

module _ {T : Type 0} where
  -- the map with this under the number
  abbrev pub placed : FinMap nat_cmp T → ℕ → Option T → FinMap nat_cmp T
  placed m n None = remove m n
  placed m n (Some item) = insert m n item

  -- the values in the cells that these entries name, under the entries' numbers
  abbrev pub joined_entries : Slab T → List (ℕ × ℕ) → FinMap nat_cmp T
  joined_entries cells [] = empty
  joined_entries cells (e ∷ es) = placed (joined_entries cells es) e.0 (slab.get cells e.1)

  -- under each number of the index the value in its cell
  unfoldable pub joined : FinMap nat_cmp ℕ → Slab T → FinMap nat_cmp T
  joined index cells = joined_entries cells (entries index)

  -- each number of the index has a cell with a value, no two the same one; and is a number of 32 bits
  pub record IsIndex (index : FinMap nat_cmp ℕ) (cells : Slab T) : Type 0 where
    pub full : (n key : ℕ) → get index n ≡ Some key → IsSome (slab.get cells key)
    pub apart : (n m key : ℕ) → get index n ≡ Some key → get index m ≡ Some key → n ≡ m
    pub narrow : (n : ℕ) → IsSome (get index n) → n < 2 ^ 32
