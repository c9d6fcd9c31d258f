-- What is held of the bytes of a straight buffer, as its ends move.
use Rattle.std.proofs.Common.{◌≡◌, ℕ, ◌+◌, ◌-◌, ◌≤◌, List, ◌++◌, length, take, drop, slice_range, sym, ◌∙◌, ap, ap₂, arith}
use Rattle.std.proofs.Math.Seq.{take-add, take-append_seam, drop-append_seam, take-take}
use Rattle.std.proofs.lemmas.List.{drop-take, drop-drop, drop-append-le, length-append, length-take-le, length-drop}
use Rattle.std.specs.List.{copy_within}

-- what stands between two places
pub range_is : (xs : List ℕ) (from to : ℕ) → from ≤ to → slice_range xs from to ≡ drop from (take to xs)
range_is xs from to order =
    sym (drop-take from (to - from) xs) ∙ ap (λ k. drop from (take k xs)) (omega (arith, order))

-- a piece stands behind what is held
pub appended : (old new piece : List ℕ) (from to : ℕ) → from ≤ to → to ≤ length old → take (to + length piece) new ≡ take to old ++ piece
    → slice_range new from (to + length piece) ≡ slice_range old from to ++ piece
appended old new piece from to order within is =
    let enough : from ≤ length (take to old) = rw (length-take-le to old within) order in
    range_is new from (to + length piece) (omega (arith, order)) ∙ ap (drop from) is ∙ drop-append-le from (take to old) piece enough
    ∙ ap (λ xs. xs ++ piece) (sym (range_is old from to order))

-- some bytes went from the front
pub gone : (xs : List ℕ) (from n to : ℕ) → from + n ≤ to → slice_range xs (from + n) to ≡ drop n (slice_range xs from to)
gone xs from n to order =
    range_is xs (from + n) to order ∙ sym (drop-drop n from (take to xs)) ∙ ap (drop n) (sym (range_is xs from to (omega (arith, order))))

-- how many bytes stand between two places
pub held_length : (xs : List ℕ) (from to : ℕ) → to ≤ length xs → length (slice_range xs from to) ≡ to - from
held_length xs from to within = length-take-le (to - from) (drop from xs) (rw (length-drop from xs) (omega (arith, within)))

-- the bytes once k of them were moved down by a gap, to a place
abbrev pub part : List ℕ → ℕ → ℕ → ℕ → List ℕ
part xs to gap k = take to xs ++ take k (drop (to + gap) xs) ++ drop (to + k) xs

-- how many stand in front of those that weren't written
pub front_length : (xs : List ℕ) (to gap k : ℕ) → to + gap + k ≤ length xs → length (take to xs ++ take k (drop (to + gap) xs)) ≡ to + k
front_length xs to gap k within =
    let long : length (take to xs) ≡ to = length-take-le to xs (omega (arith, within)) in
    let short : length (take k (drop (to + gap) xs)) ≡ k =
    length-take-le k (drop (to + gap) xs) (rw (length-drop (to + gap) xs) (omega (arith, within))) in
    length-append (take to xs) (take k (drop (to + gap) xs)) ∙ ap₂ (λ a b. a + b) long short

-- as many bytes stand there as before
pub part_length : (xs : List ℕ) (to gap k : ℕ) → to + gap + k ≤ length xs → length (part xs to gap k) ≡ length xs
part_length xs to gap k within =
    length-append (take to xs ++ take k (drop (to + gap) xs)) (drop (to + k) xs)
    ∙ ap₂ (λ a b. a + b) (front_length xs to gap k within) (length-drop (to + k) xs) ∙ omega (arith, within)

-- in front stands what was moved
pub front_part : (xs : List ℕ) (to gap k : ℕ) → to + gap + k ≤ length xs
    → take (to + k) (part xs to gap k) ≡ take to xs ++ take k (drop (to + gap) xs)
front_part xs to gap k within =
    let front = take to xs ++ take k (drop (to + gap) xs) in
    ap (λ n. take n (part xs to gap k)) (sym (front_length xs to gap k within)) ∙ take-append_seam front (drop (to + k) xs)

-- behind what was moved stands what stood there
pub behind_part : (old now : List ℕ) (gap to k : ℕ) → to + gap + k ≤ length now → drop to now ≡ drop to old
    → drop (to + k) (part now to gap k) ≡ drop (to + k) old
behind_part old now gap to k within behind =
    let front = take to now ++ take k (drop (to + gap) now) in
    ap (λ n. drop n (part now to gap k)) (sym (front_length now to gap k within)) ∙ drop-append_seam front (drop (to + k) now)
    ∙ sym (drop-drop k to now) ∙ ap (drop k) behind ∙ drop-drop k to old

-- so many bytes stand at the front once one more part was moved down
pub part_moved : (old now : List ℕ) (gap to k : ℕ) → to + gap + k ≤ length now → take to now ≡ take to (drop gap old)
    → drop to now ≡ drop to old → take (to + k) (part now to gap k) ≡ take (to + k) (drop gap old)
part_moved old now gap to k within moved behind =
    let stands : drop (to + gap) now ≡ drop to (drop gap old) =
    sym (drop-drop gap to now) ∙ ap (drop gap) behind ∙ drop-drop gap to old ∙ ap (λ n. drop n old) (omega arith)
    ∙ sym (drop-drop to gap old) in
    front_part now to gap k within ∙ ap₂ (λ a b. a ++ take k b) moved stands ∙ sym (take-add to k (drop gap old))

-- what is held stands at the front
pub at_front : (old new : List ℕ) (from to n : ℕ) → n ≡ to - from → take n new ≡ take n (drop from old) → slice_range new 0 n ≡ slice_range old from to
at_front old new from to n is stands = ap (λ m. take m new) (omega arith) ∙ stands ∙ ap (λ m. take m (drop from old)) is

-- bytes between two places were cut out of what is held, and those behind them moved down
pub cut_out : (old : List ℕ) (from at n to : ℕ) → from + (at + n) ≤ to → to ≤ length old
    → slice_range (copy_within old (from + at + n) to (from + at)) from (to - n)
    ≡ take at (slice_range old from to) ++ drop (at + n) (slice_range old from to)
cut_out old from at n to order within =
    let place = from + at in
    let k = to - (place + n) in
    let xs = take place old in
    let ends : place + k ≡ to - n = omega (arith, order) in
    let taken : take (to - n) (part old place n k) ≡ xs ++ take k (drop (place + n) old) =
    ap (λ m. take m (part old place n k)) (sym ends) ∙ front_part old place n k (omega (arith, order, within)) in
    let front : drop from xs ≡ take at (slice_range old from to) =
    drop-take from at old ∙ sym (take-take at (to - from) (drop from old) (omega (arith, order))) in
    let back : take k (drop (place + n) old) ≡ drop (at + n) (slice_range old from to) =
    ap (λ m. slice_range old m to) (omega arith) ∙ gone old from (at + n) to order in
    let enough : from ≤ length xs = rw (length-take-le place old (omega (arith, order, within))) (omega arith) in
    range_is (part old place n k) from (to - n) (omega (arith, order)) ∙ ap (drop from) taken
    ∙ drop-append-le from xs (take k (drop (place + n) old)) enough ∙ ap₂ (λ a b. a ++ b) front back
