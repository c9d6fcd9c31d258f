-- Parts of bytes.
use Rattle.std.proofs.Common.{◌≡◌, ℕ, ◌+◌, ◌-◌, ◌≤◌, List, ◌++◌, length, take, drop, refl, sym, ◌∙◌, ap, arith}
use Rattle.std.specs.Prelude.{slice_range}
use Rattle.std.proofs.lemmas.List.{drop-take, drop-drop, drop-append-le, length-take-le, take-take}
use Rattle.std.proofs.lemmas.Slice.{between_is}

pub range_drop : (xs : List ℕ) (s n e : ℕ) → s + n ≤ e → slice_range xs (s + n) e ≡ drop n (slice_range xs s e)
range_drop xs s n e h =
    let shorter : e - s ≡ n + (e - (s + n)) = omega arith in
    rw (shorter, drop-take, drop-drop) refl

-- a part of a part
pub range_range : (xs : List ℕ) (a b i j : ℕ) → a + j ≤ b → slice_range (slice_range xs a b) i j ≡ slice_range xs (a + i) (a + j)
range_range xs a b i j within =
    let enough : j ≤ b - a = omega arith in
    let same : a + j - (a + i) ≡ j - i = omega arith in
    between_is (slice_range xs a b) i j ∙ ap (drop i) (take-take j (b - a) (drop a xs) enough)
    ∙ sym (between_is (drop a xs) i j) ∙ rw (same, ← drop-drop) refl
