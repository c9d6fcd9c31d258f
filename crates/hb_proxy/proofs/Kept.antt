-- What is kept under numbers counts as often as there are values.
use Rattle.std.proofs.Common.{◌≡◌, ℕ, ◌+◌, ◌<◌, ◌≤◌, zero, suc, Bool, true, false, cond, Option, Some, None, is_some, IsSome, ◌≢◌, refl, ap, sym, ◌∙◌, subst, arith}
use Rattle.std.specs.Ordering.{nat_cmp}
use Rattle.std.specs.Cmp.{nat_cmp_total}
use Rattle.std.specs.FinMap.{FinMap, get, remove, len, len-empty, empty, get-empty, same_map, nat_cmp-IsAntisymmetric}
use Rattle.hb_map.proofs.Laws.{removed_here, removed_elsewhere, len_without_one}
use Rattle.hb_proxy.specs.Load.{sum_below, one_if, CountsTo}
use Rattle.hb_proxy.proofs.Counted.{grows_to}

same_all : (f h : ℕ → Bool) (n : ℕ) → ((k : ℕ) → f k ≡ h k) → sum_below (λ k. one_if (f k)) n ≡ sum_below (λ k. one_if (h k)) n
same_all f h zero same = refl
same_all f h (suc n) same =
    let front = same_all f h n same in let here = ap one_if (same n) in omega (arith, front, here)

module _ {T : Type 0} where
  abbrev count_of : FinMap nat_cmp T → ℕ → ℕ
  count_of m n = sum_below (λ k. one_if (is_some (get m k))) n

  none_there : (m : FinMap nat_cmp T) → ((k : ℕ) → get m k ≡ None) → 0 ≡ len m
  none_there m none =
      sym (ap (λ (n : FinMap nat_cmp T). len n) (same_map nat_cmp_total nat_cmp-IsAntisymmetric m empty (λ q. none q ∙ sym (get-empty nat_cmp q)))
      ∙ len-empty nat_cmp T)

  absent : (o : Option T) → (IsSome o → 0 < 0) → o ≡ None
  absent None never = refl
  absent (Some v) never = absurd (omega (arith, never refl))

  abbrev one_of : Option T → ℕ
  one_of o = cond (is_some o) 1 0

  same_below : (n : ℕ) (m other : FinMap nat_cmp T) → ((k : ℕ) → k < n → get other k ≡ get m k) → count_of other n ≡ count_of m n
  same_below zero m other same = refl
  same_below (suc n) m other same =
      let front = same_below n m other (λ k below. same k (omega (arith, below))) in
      let here : cond (is_some (get other n)) 1 0 ≡ cond (is_some (get m n)) 1 0 = ap one_of (same n (omega arith)) in
      omega (arith, front, here)

  apart_none : (m : FinMap nat_cmp T) (n k : ℕ) → is_some (get m n) ≡ false → IsSome (get m k) → k ≢ n
  apart_none m n k none some is = cc (sym (ap (λ j. is_some (get m j)) is ∙ none) ∙ some)

  apart_removed : (m : FinMap nat_cmp T) (n k : ℕ) → IsSome (get (remove m n) k) → k ≢ n
  apart_removed m n k some is =
      let gone : is_some (get (remove m n) k) ≡ false = ap (λ j. is_some (get (remove m n) j)) is ∙ ap is_some (removed_here m n) in
      cc (sym gone ∙ some)

  inner : (m : FinMap nat_cmp T) (n : ℕ) → ((k : ℕ) → IsSome (get m k) → k < suc n) → (k : ℕ) → IsSome (get (remove m n) k) → k < n
  inner m n below k some =
      let apart = apart_removed m n k some in
      let was : IsSome (get m k) = sym (ap is_some (removed_elsewhere m n k apart)) ∙ some in
      omega (arith, below k was, apart)

  step : (n : ℕ) (m : FinMap nat_cmp T) → ((other : FinMap nat_cmp T) → ((k : ℕ) → IsSome (get other k) → k < n) → count_of other n ≡ len other)
      → ((k : ℕ) → IsSome (get m k) → k < suc n) → (b : Bool) → is_some (get m n) ≡ b → count_of m n + cond b 1 0 ≡ len m
  step n m rest below true there =
      let inside = rest (remove m n) (inner m n below) in
      let same = same_below n m (remove m n) (λ k less. removed_elsewhere m n k (λ is. omega (arith, is, less))) in
      let one = len_without_one m n there in
      omega (arith, inside, same, one)
  step n m rest below false none =
      let inside = rest m (λ k some. (let apart = apart_none m n k none some in omega (arith, below k some, apart))) in
      omega (arith, inside)

  -- all are counted below a bound of their numbers
  count_is_len : (bound : ℕ) (m : FinMap nat_cmp T) → ((k : ℕ) → IsSome (get m k) → k < bound) → count_of m bound ≡ len m
  count_is_len zero m below = none_there m (λ k. absent (get m k) (λ some. absurd (omega (arith, below k some))))
  count_is_len (suc n) m below = step n m (count_is_len n) below (is_some (get m n)) refl

  -- and what counts exactly where something is kept
  pub kept_count : (m : FinMap nat_cmp T) (f : ℕ → Bool) (bound : ℕ) → ((k : ℕ) → IsSome (get m k) → k < bound)
      → ((k : ℕ) → f k ≡ is_some (get m k)) → CountsTo (λ b. sum_below (λ k. one_if (f k)) b) (len m)
  kept_count m f bound below same = record {
    within = λ b. (let all = count_is_len (b + bound) m (λ k some. (let low = below k some in omega (arith, low))) in
        let further = grows_to (λ k. one_if (f k)) b (b + bound) (omega arith) in
        let as_kept = same_all f (λ k. is_some (get m k)) (b + bound) same in
        omega (arith, all, further, as_kept));
    bound = bound;
    whole = λ more far. (let all = count_is_len more m (λ k some. (let low = below k some in omega (arith, low, far))) in
        let as_kept = same_all f (λ k. is_some (get m k)) more same in
        omega (arith, all, as_kept));
  }
