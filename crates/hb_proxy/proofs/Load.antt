-- Counts of numbers below a bound.
use Rattle.std.proofs.Common.{◌≡◌, ℕ, zero, suc, ◌+◌, ◌<◌, ◌≤◌, ◌==◌, Bool, true, false, refl, sym, ◌∙◌, subst, arith}
use Rattle.std.proofs.lemmas.Bool.{eq-eqb, eqb-true, false≢true}
use Rattle.std.specs.Prelude.{◌≢◌}
use Rattle.hb_proxy.specs.Load.{sum_below, one_if}

-- where each of them counts no more, all count no more
pub not_more : (f h : ℕ → ℕ) (n : ℕ) → ((k : ℕ) → k < n → h k ≤ f k) → sum_below h n ≤ sum_below f n
not_more f h zero each = omega arith
not_more f h (suc n) each =
    let front = not_more f h n (λ k less. each k (omega (arith, less))) in
    let here = each n (omega arith) in omega (arith, front, here)

-- where one of them counts one more, all count one more at most
pub one_more : (f h : ℕ → ℕ) (l : ℕ) → ((k : ℕ) → k ≢ l → h k ≤ f k) → h l ≤ f l + 1 → (n : ℕ)
    → sum_below h n ≤ sum_below f n + 1
one_more f h l each here zero = omega arith
one_more f h l each here (suc n) = by (n == l) refl (one_more f h l each here n)
  where
    by : (b : Bool) → (n == l) ≡ b → sum_below h n ≤ sum_below f n + 1 → sum_below h (suc n) ≤ sum_below f (suc n) + 1
    by true is before =
        let same : n ≡ l = eqb-true n l is in
        let front = not_more f h n (λ k less. each k (λ (at : k ≡ l). omega (arith, less, at, same))) in
        let last : h n ≤ f n + 1 = subst (λ (j : ℕ). h j ≤ f j + 1) (sym same) here in omega (arith, front, last)
    by false is before =
        let last : h n ≤ f n = each n (λ (at : n ≡ l). false≢true (sym is ∙ eq-eqb n l at)) in omega (arith, before, last)

-- none counts
pub none_below : (n : ℕ) → sum_below (λ k. 0) n ≡ 0
none_below zero = refl
none_below (suc n) = let front = none_below n in omega (arith, front)

-- one at most counts
pub only_one : (h : ℕ → ℕ) (l : ℕ) → ((k : ℕ) → k ≢ l → h k ≤ 0) → h l ≤ 1 → (n : ℕ) → sum_below h n ≤ 1
only_one h l each here n =
    let more = one_more (λ k. 0) h l each (omega (arith, here)) n in let none = none_below n in omega (arith, more, none)

-- one counts once
pub one_at_most : (b : Bool) → one_if b ≤ 1
one_at_most true = omega arith
one_at_most false = omega arith

-- what counts now counted before
pub one_falls : (now before : Bool) → (now ≡ true → before ≡ true) → one_if now ≤ one_if before
one_falls true true then = omega arith
one_falls true false then = absurd (false≢true (then refl))
one_falls false true then = omega arith
one_falls false false then = omega arith
