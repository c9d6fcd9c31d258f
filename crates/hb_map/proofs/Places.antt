-- What stands under a number in a list of entries whose numbers rise, and what an edit of the list does to it.
use Rattle.std.proofs.Common.{◌≡◌, ◌≢◌, ℕ, zero, suc, ◌+◌, ◌-◌, ◌<◌, ◌≤◌, eqb, cond, List, [], ◌∷◌, length, get_or, set, remove, Option, Some, None, is_some, IsSome, refl, ap, sym, subst, ◌∙◌, add-one, arith}
use Rattle.std.specs.List.{insert}
use Rattle.std.specs.List.Sorted.{IsNonDecreasingBy}
use Rattle.std.specs.Ordering.{nat_cmp, ordering_index}
use Rattle.std.specs.Map.{lookup}
use Rattle.std.specs.BTreeMap.{is_at}
use Rattle.std.specs.Cmp.{nat_cmp_total, unsigned_tied}
use Rattle.std.specs.FinMap as map
use Rattle.std.specs.FinMap.{from_entries, get-insert, get-remove, len-insert, len-empty, same_map, nat_cmp-IsAntisymmetric}
use Rattle.std.proofs.lemmas.List.Edits.{length-insert, get_or-insert_below, get_or-insert_at, get_or-insert_above, length-remove, get_or-remove_below, get_or-remove_above}
use Rattle.std.proofs.lemmas.Bool.Decides.{nat_tests}
use Rattle.std.proofs.lemmas.Grind.{common_steps}
use Rattle.hb_map.specs.Keyed.{IsFirstFrom}
use Rattle.hb_map.specs.Places.{AreRising, IsAt, IsGapFor}
use Rattle.hb_map.proofs.Entries.{get_made}

module _ {T : Type 0} where
  -- the value of the first entry that has the number
  abbrev pub found : List (ℕ × T) → ℕ → Option T
  found [] q = None
  found (e ∷ es) q = cond (eqb q e.0) (Some e.1) (found es q)

  found_is : (es : List (ℕ × T)) (q : ℕ) → lookup (is_at (nat_cmp q)) es ≡ found es q
  found_is [] q = refl
  found_is (e ∷ es) q = ap (λ b. cond b (Some e.1) (lookup (is_at (nat_cmp q)) es)) (unsigned_tied q e.0)
      ∙ ap (cond (eqb q e.0) (Some e.1)) (found_is es q)

  -- the map that the entries make has it
  pub get_found : (es : List (ℕ × T)) (q : ℕ) → map.get (from_entries {R = nat_cmp} es) q ≡ found es q
  get_found es q = get_made es q ∙ found_is es q

  -- entries that differ by a value under one number make maps that differ by it
  pub found_with : (es fs : List (ℕ × T)) (key : ℕ) (v : T)
      → ((q : ℕ) → found fs q ≡ cond (eqb q key) (Some v) (found es q))
      → from_entries {R = nat_cmp} fs ≡ map.insert (from_entries es) key v
  found_with es fs key v h = same_map nat_cmp_total nat_cmp-IsAntisymmetric _ _ (λ q.
      get_found fs q ∙ h q
      ∙ sym (get-insert nat_cmp_total (from_entries es) key v q
      ∙ ap (λ b. cond b (Some v) (map.get (from_entries {R = nat_cmp} es) q)) (unsigned_tied q key)
      ∙ ap (cond (eqb q key) (Some v)) (get_found es q)))

  -- entries of which one lacks the value under one number make maps of which one lacks it
  pub found_without : (es fs : List (ℕ × T)) (key : ℕ)
      → ((q : ℕ) → found fs q ≡ cond (eqb q key) None (found es q))
      → from_entries {R = nat_cmp} fs ≡ map.remove (from_entries es) key
  found_without es fs key h = same_map nat_cmp_total nat_cmp-IsAntisymmetric _ _ (λ q.
      get_found fs q ∙ h q
      ∙ sym (get-remove nat_cmp_total (from_entries es) key q
      ∙ ap (λ b. cond b None (map.get (from_entries {R = nat_cmp} es) q)) (unsigned_tied q key)
      ∙ ap (cond (eqb q key) None) (get_found es q)))

  -- no entry in front of place i has the number
  abbrev pub NoneBefore : List (ℕ × T) → ℕ → ℕ → Type 0
  NoneBefore l k i = (j : ℕ) (d : ℕ × T) → j < i → (get_or l j d).0 ≢ k

  none_before_tail : (x : ℕ × T) (l : List (ℕ × T)) (k i : ℕ) → NoneBefore (x ∷ l) k (suc i) → NoneBefore l k i
  none_before_tail x l k i none j d lt = none (suc j) d (omega arith)

  is_at_tail : (x : ℕ × T) (l : List (ℕ × T)) (k i : ℕ) → IsAt (x ∷ l) k (suc i) → IsAt l k i
  is_at_tail x l k i is = (omega (arith, is.0), is.1)

  -- a number that no entry has isn't found
  pub found_absent : (l : List (ℕ × T)) (k : ℕ) → NoneBefore l k (length l) → found l k ≡ None
  found_absent [] k none = refl
  found_absent (x ∷ l) k none = grind (arith, nat_tests, none 0 x (omega arith), found_absent l k (none_before_tail x l k _ none))

  -- the first entry that has the number gives the value
  pub found_present : (l : List (ℕ × T)) (k i : ℕ) (d : ℕ × T) → IsAt l k i → NoneBefore l k i → found l k ≡ Some (get_or l i d).1
  found_present [] k i d is none = absurd (omega (arith, is.0))
  found_present (x ∷ l) k zero d is none = grind (arith, nat_tests, is.1 x)
  found_present (x ∷ l) k (suc i) d is none =
      grind (arith, nat_tests, none 0 x (omega arith), found_present l k i d (is_at_tail x l k i is) (none_before_tail x l k i none))

  -- it is found
  found_some : (l : List (ℕ × T)) (k i : ℕ) → IsAt l k i → NoneBefore l k i → IsSome (found l k)
  found_some [] k i is none = absurd (omega (arith, is.0))
  found_some (x ∷ l) k zero is none = grind (arith, nat_tests, is.1 x)
  found_some (x ∷ l) k (suc i) is none =
      grind (arith, nat_tests, none 0 x (omega arith), found_some l k i (is_at_tail x l k i is) (none_before_tail x l k i none))

  -- writing over the first entry that has the number sets its value
  found_set : (l : List (ℕ × T)) (k : ℕ) (v : T) (i : ℕ) → IsAt l k i → NoneBefore l k i
      → (q : ℕ) → found (set l i (k, v)) q ≡ cond (eqb q k) (Some v) (found l q)
  found_set [] k v i is none q = absurd (omega (arith, is.0))
  found_set (x ∷ l) k v zero is none q = grind (arith, nat_tests, is.1 x)
  found_set (x ∷ l) k v (suc i) is none q =
      grind (arith, nat_tests, none 0 x (omega arith), found_set l k v i (is_at_tail x l k i is) (none_before_tail x l k i none) q)

  -- so does a new entry in front of any that has the number
  found_insert : (l : List (ℕ × T)) (k : ℕ) (v : T) (i : ℕ) → NoneBefore l k i
      → (q : ℕ) → found (insert l i (k, v)) q ≡ cond (eqb q k) (Some v) (found l q)
  found_insert l k v zero none q = refl
  found_insert [] k v (suc i) none q = refl
  found_insert (x ∷ l) k v (suc i) none q =
      grind (arith, nat_tests, none 0 x (omega arith), found_insert l k v i (none_before_tail x l k i none) q)

  -- without the one entry that has the number it isn't found
  found_remove : (l : List (ℕ × T)) (k i : ℕ) → IsAt l k i → NoneBefore l k i
      → ((j : ℕ) (d : ℕ × T) → i < j → j < length l → (get_or l j d).0 ≢ k)
      → (q : ℕ) → found (remove l i) q ≡ cond (eqb q k) None (found l q)
  found_remove [] k i is none after q = absurd (omega (arith, is.0))
  found_remove (x ∷ l) k zero is none after q =
      let gone : found l k ≡ None = found_absent l k (λ j d lt. after (suc j) d (omega arith) (omega arith)) in
      grind (arith, nat_tests, is.1 x, gone)
  found_remove (x ∷ l) k (suc i) is none after q =
      grind (
        arith,
        nat_tests,
        none 0 x (omega arith),
        found_remove l k i (is_at_tail x l k i is) (none_before_tail x l k i none)
            (λ j d lt in_range. after (suc j) d (omega arith) (omega arith)) q,
      )

  -- where the numbers rise, the map has as many as there are entries
  pub len_rising : (l : List (ℕ × T)) → AreRising l → map.len (from_entries {R = nat_cmp} l) ≡ length l
  len_rising [] rising = len-empty nat_cmp T
  len_rising (e ∷ es) rising =
      let new = get_found es e.0 ∙ found_absent es e.0 (λ j d lt same. omega (arith, rising 0 (suc j) d (omega arith) (omega arith))) in
      len-insert nat_cmp_total (from_entries es) e.0 e.1
      ∙ ap (λ o. cond (is_some o) (map.len (from_entries {R = nat_cmp} es)) (map.len (from_entries {R = nat_cmp} es) + 1)) new
      ∙ ap (λ n. n + 1) (len_rising es (λ i j d lt in_range. rising (suc i) (suc j) d (omega arith) (omega arith))) ∙ add-one (length es)

module _ {T : Type 0} (l : List (ℕ × T)) (rising : AreRising l) (k : ℕ) where
  -- the comparisons with k rise along the list, as a binary search asks
  pub comparisons_rise : IsNonDecreasingBy (λ e. ordering_index (nat_cmp e.0 k)) l
  comparisons_rise i j d le in_range =
      let numbers_rise : (get_or l i d).0 ≤ (get_or l j d).0 = grind (
        arith,
        rising i j d,
        λ (same : i ≡ j). ap
            (λ i. (get_or l i d).0) same,
      ) in
      grind (arith, nat_tests)

-- an entry that was read at a place has the number that it has
pub its_own : {T : Type 0} (l : List (ℕ × T)) (k at : ℕ) (e : ℕ × T) → IsAt l k at → e ≡ get_or l at e → e.0 ≡ k
its_own l k at e is read = ap (λ x. x.0) read ∙ is.1 e

module _ {T : Type 0} (l : List (ℕ × T)) (rising : AreRising l) (k at : ℕ) (is : IsAt l k at) where
  none_before_at : NoneBefore l k at
  none_before_at j d lt same = omega (arith, rising j at d lt is.0, is.1 d)

  -- what the map has under the number
  pub get_at : (d : ℕ × T) → map.get (from_entries {R = nat_cmp} l) k ≡ Some (get_or l at d).1
  get_at d = get_found l k ∙ found_present l k at d is none_before_at

  pub is_there : IsSome (map.get (from_entries {R = nat_cmp} l) k)
  is_there = subst IsSome (sym (get_found l k)) (found_some l k at is none_before_at)

  -- the map once the entry is written over, and that the numbers still rise
  pub made_set : (v : T) → from_entries {R = nat_cmp} (set l at (k, v)) ≡ map.insert (from_entries l) k v
  made_set v = found_with l (set l at (k, v)) k v (found_set l k v at is none_before_at)

  pub rising_set : (v : T) → AreRising (set l at (k, v))
  rising_set v i j d lt in_range =
      grind (arith, common_steps, rising i j d, rising i at d, rising at j d, is.0, is.1 d)

  -- and once it is taken out
  pub made_remove : from_entries {R = nat_cmp} (remove l at) ≡ map.remove (from_entries l) k
  made_remove = found_without l (remove l at) k (found_remove l k at is none_before_at
      (λ j d lt in_range same. omega (arith, rising at j d lt in_range, is.1 d)))

  pub rising_remove : AreRising (remove l at)
  rising_remove i j d lt in_range =
      let len = length-remove l at is.0 in
      let below : (q : ℕ) → q < at → get_or (remove l at) q d ≡ get_or l q d = λ q lt. get_or-remove_below l at d q lt is.0 in
      let above : (q : ℕ) → at ≤ q → get_or (remove l at) q d ≡ get_or l (q + 1) d = λ q le. get_or-remove_above l at d q le is.0 in
      let number = λ (x : ℕ × T). x.0 in
      grind (
        arith,
        λ (h : i < at). ap number (below i h),
        λ (h : at ≤ i). ap number (above i h),
        λ (h : j < at). ap number (below j h),
        λ (h : at ≤ j). ap number (above j h),
        rising i j d,
        rising i (j + 1) d,
        rising (i + 1) (j + 1) d,
      )

module _ {T : Type 0} (l : List (ℕ × T)) (k at : ℕ) (gap : IsGapFor l k at) where
  -- a number that has a gap isn't there
  absent : found l k ≡ None
  absent = found_absent l k (λ j d lt same. grind (arith, gap.1 j d, gap.2 j d))

  pub get_in_gap : map.get (from_entries {R = nat_cmp} l) k ≡ None
  get_in_gap = get_found l k ∙ absent

  -- so the map is itself without it
  pub made_same : from_entries {R = nat_cmp} l ≡ map.remove (from_entries l) k
  made_same = found_without l l k (λ q. grind (arith, nat_tests, λ (same : q ≡ k). ap (found l) same ∙ absent))

  -- the map once an entry is put into the gap, and that the numbers still rise
  pub made_insert : (v : T) → from_entries {R = nat_cmp} (insert l at (k, v)) ≡ map.insert (from_entries l) k v
  made_insert v = found_with l (insert l at (k, v)) k v (found_insert l k v at (λ j d lt same. omega (arith, gap.1 j d lt)))

  pub rising_insert : (v : T) → AreRising l → AreRising (insert l at (k, v))
  rising_insert v rising i j d lt in_range =
      let new = insert l at (k, v) in
      let number = λ (x : ℕ × T). x.0 in
      let length_new = length-insert l at (k, v) gap.0 in
      let below : (i : ℕ) → i < at → (get_or new i d).0 ≡ (get_or l i d).0 =
      λ i below. ap number (get_or-insert_below l at (k, v) d i below gap.0) in
      let here : (i : ℕ) → i ≡ at → (get_or new i d).0 ≡ k = λ i here. rw here (ap number (get_or-insert_at l at (k, v) d gap.0)) in
      let above : (i : ℕ) → at < i → (get_or new i d).0 ≡ (get_or l (i - 1) d).0 = λ i above.
      subst (λ q. (get_or new q d).0 ≡ (get_or l (i - 1) d).0) {x = i - 1 + 1} (omega arith)
      (ap number (get_or-insert_above l at (k, v) d (i - 1) (omega arith) gap.0)) in
      grind (
        arith,
        below i,
        here i,
        above i,
        below j,
        here j,
        above j,
        rising i j d,
        rising i (j - 1) d,
        rising (i - 1) (j - 1) d,
        gap.1 i d,
        gap.2 (j - 1) d,
      )

module _ {T : Type 0} (l : List (ℕ × T)) (rising : AreRising l) (from at : ℕ) (gap : IsGapFor l from at) where
  -- the entry behind the gap has the least number from `from` on
  pub first_behind : (e : ℕ × T) → at < length l → ((d : ℕ × T) → get_or l at d ≡ e)
      → IsFirstFrom (from_entries {R = nat_cmp} l) from (Some e.0)
  first_behind e in_range is = (
    omega (arith, gap.2 at e (omega arith) in_range, ap (λ (x : ℕ × T). x.0) (is e)),
    is_there l rising e.0 at (in_range, λ d. ap (λ (x : ℕ × T). x.0) (is d)),
    λ key above below. get_found l key ∙ found_absent l key (λ j d lt same.
        grind (arith, gap.1 j d, rising at j d, ap (λ (x : ℕ × T). x.0) (is d), λ (here : at ≡ j). ap (λ i. (get_or l i d).0) here)),
  )

  -- and where none is behind it, no number from there on is there
  pub none_behind : length l ≤ at → IsFirstFrom (from_entries {R = nat_cmp} l) from None
  none_behind end key above = get_found l key ∙ found_absent l key (λ j d lt same. omega (arith, gap.1 j d (omega arith)))
