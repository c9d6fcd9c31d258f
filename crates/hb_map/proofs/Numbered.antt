-- The same of entries under keys, by the numbers of these.
use Rattle.std.proofs.Common.{◌≡◌, ℕ, zero, suc, ◌<◌, List, [], ◌∷◌, length, get_or, set, remove, Some, Result, Ok, Err, IfOk, IfErr}
use Rattle.std.proofs.Common.{refl, ap, sym, subst, ◌∙◌, arith}
use Rattle.std.specs.List.{insert}
use Rattle.std.specs.Ordering.{nat_cmp, ordering_index}
use Rattle.std.specs.FinMap as fin
use Rattle.std.specs.FinMap.{from_entries}
use Rattle.std.proofs.lemmas.List.{map-set, get_or-map, length-map}
use Rattle.std.proofs.lemmas.Cmp.{ranked}
use Rattle.std.specs.List.Sorted.{IsSearchInRange, IsBinarySearchResult, IsNonDecreasingBy}
use Rattle.hb_map.specs.Places.{numbered, AreRising, IsAt, IsGapFor}
use Rattle.hb_map.proofs.Places as places

module _ {K T : Type 0} (number : K → ℕ) where
  -- the entry with its key's number
  abbrev pub entry : K × T → ℕ × T
  entry e = (number e.0, e.1)

  numbered-insert : (items : List (K × T)) (i : ℕ) (e : K × T)
      → numbered number (insert items i e) ≡ insert (numbered number items) i (entry e)
  numbered-insert items zero e = refl
  numbered-insert [] (suc i) e = refl
  numbered-insert (x ∷ items) (suc i) e = ap (λ l. entry x ∷ l) (numbered-insert items i e)

  numbered-remove : (items : List (K × T)) (i : ℕ) → numbered number (remove items i) ≡ remove (numbered number items) i
  numbered-remove [] zero = refl
  numbered-remove [] (suc i) = refl
  numbered-remove (x ∷ items) zero = refl
  numbered-remove (x ∷ items) (suc i) = ap (λ l. entry x ∷ l) (numbered-remove items i)

  -- some entry of a list that has one
  some_entry : (items : List (K × T)) (i : ℕ) → i < length items → K × T
  some_entry [] i lt = absurd (omega arith)
  some_entry (x ∷ items) i lt = x

  number_at : (items : List (K × T)) (i : ℕ) (d : ℕ × T) (e : K × T) → i < length items
      → (get_or (numbered number items) i d).0 ≡ number (get_or items i e).0
  number_at items i d e lt = ap (λ x. x.0) (get_or-map entry items i e d lt)

  -- the comparisons with k rise along the list, as a binary search asks
  comparisons_rise : (items : List (K × T)) (k : ℕ) → AreRising (numbered number items)
      → IsNonDecreasingBy (λ e. ordering_index (nat_cmp (number e.0) k)) items
  comparisons_rise items k rising i j d le in_range =
      let there : j < length (numbered number items) = omega (arith, in_range, length-map items entry) in
      let rises = places.comparisons_rise (numbered number items) rising k i j (entry d) le there in
      let index : ℕ → ℕ = λ n. ordering_index (nat_cmp n k) in
      let a : index (get_or (numbered number items) i (entry d)).0 ≡ index (number (get_or items i d).0) =
      ap index (number_at items i (entry d) d (omega arith)) in
      let b : index (get_or (numbered number items) j (entry d)).0 ≡ index (number (get_or items j d).0) =
      ap index (number_at items j (entry d) d in_range) in
      omega (arith, rises, a, b)

  -- a binary search ends at the number, or at the gap for it
  pub searched : (items : List (K × T)) (k : ℕ) → AreRising (numbered number items) → (r : Result ℕ ℕ) → IsSearchInRange r (length items)
      → IsBinarySearchResult (λ e. nat_cmp (number e.0) k) items r
      → IfOk r (IsAt (numbered number items) k) × IfErr r (IsGapFor (numbered number items) k)
  searched items k rising (Ok at) in_range equal = (
    (
      omega (arith, in_range, length-map items entry),
      λ d. let e = some_entry items at in_range in number_at items at d e in_range ∙ ranked _ k _ (sym (equal e)),
    ),
    tt,
  )
  searched items k rising (Err at) in_range parted = (
    tt,
    (
      omega (arith, in_range, length-map items entry),
      λ j d lt.
          let there : j < length items = omega (arith, in_range, lt) in
          let e = some_entry items j there in
          subst (λ n. n < k) (sym (number_at items j d e there))
          (ranked _ k _ (sym ((parted (comparisons_rise items k rising)).0 j e (omega arith) lt))),
      λ j d le lt.
          let there : j < length items = omega (arith, lt, length-map items entry) in
          let e = some_entry items j there in
          subst (λ n. k < n) (sym (number_at items j d e there))
          (ranked _ k _ (sym ((parted (comparisons_rise items k rising)).1 j e le there))),
    ),
  )

  -- an entry that was read at a place
  numbered_read : (items : List (K × T)) (at : ℕ) (e : K × T) → at < length items → e ≡ get_or items at e
      → entry e ≡ get_or (numbered number items) at (entry e)
  numbered_read items at e lt read = ap entry read ∙ sym (get_or-map entry items at e (entry e) lt)

  -- has the number that it has
  pub its_own : (items : List (K × T)) (k at : ℕ) (e : K × T) → IsAt (numbered number items) k at → e ≡ get_or items at e → number e.0 ≡ k
  its_own items k at e is read =
      places.its_own (numbered number items) k at (entry e) is
      (numbered_read items at e (omega (arith, is.0, length-map items entry)) read)

  module _ (items : List (K × T)) (rising : AreRising (numbered number items)) (k at : ℕ) (is : IsAt (numbered number items) k at) where
    pub get_at : (e : K × T) → e ≡ get_or items at e → fin.get (from_entries {R = nat_cmp} (numbered number items)) k ≡ Some e.1
    get_at e read =
        places.get_at (numbered number items) rising k at is (entry e)
        ∙ sym (ap (λ x. Some x.1) (numbered_read items at e (omega (arith, is.0, length-map items entry)) read))

    pub made_set : (key : K) (v : T) → number key ≡ k
        → from_entries {R = nat_cmp} (numbered number (set items at (key, v))) ≡ fin.insert (from_entries (numbered number items)) k v
    made_set key v same = ap (from_entries {R = nat_cmp}) (map-set entry items at (key, v)
        ∙ ap (λ n. set (numbered number items) at (n, v)) same) ∙ places.made_set (numbered number items) rising k at is v

    pub rising_set : (key : K) (v : T) → number key ≡ k → AreRising (numbered number (set items at (key, v)))
    rising_set key v same = subst AreRising
        (sym (map-set entry items at (key, v) ∙ ap (λ n. set (numbered number items) at (n, v)) same))
        (places.rising_set (numbered number items) rising k at is v)

    pub made_remove : from_entries {R = nat_cmp} (numbered number (remove items at)) ≡ fin.remove (from_entries (numbered number items)) k
    made_remove = ap (from_entries {R = nat_cmp}) (numbered-remove items at) ∙ places.made_remove (numbered number items) rising k at is

    pub rising_remove : AreRising (numbered number (remove items at))
    rising_remove = subst AreRising (sym (numbered-remove items at)) (places.rising_remove (numbered number items) rising k at is)

  module _ (items : List (K × T)) (k at : ℕ) (gap : IsGapFor (numbered number items) k at) where
    pub made_insert : (key : K) (v : T) → number key ≡ k
        → from_entries {R = nat_cmp} (numbered number (insert items at (key, v))) ≡ fin.insert (from_entries (numbered number items)) k v
    made_insert key v same = ap (from_entries {R = nat_cmp}) (numbered-insert items at (key, v)
        ∙ ap (λ n. insert (numbered number items) at (n, v)) same) ∙ places.made_insert (numbered number items) k at gap v

    pub rising_insert : (key : K) (v : T) → number key ≡ k → AreRising (numbered number items)
        → AreRising (numbered number (insert items at (key, v)))
    rising_insert key v same rising = subst AreRising
        (sym (numbered-insert items at (key, v) ∙ ap (λ n. insert (numbered number items) at (n, v)) same))
        (places.rising_insert (numbered number items) k at gap v rising)
