-- Where the numbers of a list of entries stand, whose numbers rise.
use Rattle.std.specs.Prelude.{◌≡◌, ℕ, ◌<◌, ◌≤◌, List, length, map, slice_index_or}

-- the entries with the numbers of their keys
abbrev pub numbered : {K T : Type 0} → (K → ℕ) → List (K × T) → List (ℕ × T)
numbered number entries = map (λ e. (number e.0, e.1)) entries

module _ {T : Type 0} where
  -- the numbers rise, so none comes twice
  abbrev pub AreRising : List (ℕ × T) → Type 0
  AreRising l = (i j : ℕ) (d : ℕ × T) → i < j → j < length l → (slice_index_or l i d).0 < (slice_index_or l j d).0

  -- the entry at place i has the number
  abbrev pub IsAt : List (ℕ × T) → ℕ → ℕ → Type 0
  IsAt l key i = (i < length l) × ((d : ℕ × T) → (slice_index_or l i d).0 ≡ key)

  -- the number would go at place i: smaller ones in front of it, and greater ones from it on
  abbrev pub IsGapFor : List (ℕ × T) → ℕ → ℕ → Type 0
  IsGapFor l key i =
      (i ≤ length l)
      × ((j : ℕ) (d : ℕ × T) → j < i → (slice_index_or l j d).0 < key)
      × ((j : ℕ) (d : ℕ × T) → i ≤ j → j < length l → key < (slice_index_or l j d).0)
