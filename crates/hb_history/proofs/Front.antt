-- The octets of a preface among all that came.
use Rattle.std.proofs.Common.{◌≡◌, ℕ, zero, suc, ◌-◌, ◌≤◌, ◌<◌, min, Bool, true, false, ◌&&◌, ◌==◌, List, [], ◌∷◌, ◌++◌, length, take, drop, ◌⊎◌, inl, inr, refl, ap, sym, ◌∙◌, arith}
use Rattle.std.specs.Cmp.Lexicographic.{pointwise}
use Rattle.std.proofs.lemmas.List.{drop_all, take_min}
use Rattle.std.proofs.lemmas.Bool.{cases_lt}

-- the first octets of two lists behind each other, and those behind them
pub take_both : (n : ℕ) (xs ys : List ℕ) → take n (xs ++ ys) ≡ take n xs ++ take (n - length xs) ys
take_both zero [] ys = refl
take_both zero (x ∷ xs) ys = let none : zero - length (x ∷ xs) ≡ 0 = omega arith in ap (λ m. take m ys) (sym none)
take_both (suc n) [] ys = let all : suc n ≡ suc n - 0 = omega arith in ap (λ m. take m ys) all
take_both (suc n) (x ∷ xs) ys =
    let less : suc n - length (x ∷ xs) ≡ n - length xs = omega arith in
    ap (λ (zs : List ℕ). x ∷ zs) (take_both n xs ys) ∙ ap (λ m. x ∷ (take n xs ++ take m ys)) (sym less)

pub drop_both : (n : ℕ) (xs ys : List ℕ) → drop n (xs ++ ys) ≡ drop n xs ++ drop (n - length xs) ys
drop_both zero [] ys = refl
drop_both zero (x ∷ xs) ys = let none : zero - length (x ∷ xs) ≡ 0 = omega arith in ap (λ m. x ∷ (xs ++ drop m ys)) (sym none)
drop_both (suc n) [] ys = let all : suc n ≡ suc n - 0 = omega arith in ap (λ m. drop m ys) all
drop_both (suc n) (x ∷ xs) ys =
    let less : suc n - length (x ∷ xs) ≡ n - length xs = omega arith in
    drop_both n xs ys ∙ ap (λ m. drop n xs ++ drop m ys) (sym less)

pub drop_least : (n : ℕ) (xs : List ℕ) → drop (min (length xs) n) xs ≡ drop n xs
drop_least n xs = by (cases_lt n (length xs))
  where
    by : (n < length xs) ⊎ (length xs ≤ n) → drop (min (length xs) n) xs ≡ drop n xs
    by (inl less) = let is : min (length xs) n ≡ n = omega (arith, less) in ap (λ m. drop m xs) is
    by (inr more) = drop_all (min (length xs) n) xs (omega (arith, more)) ∙ sym (drop_all n xs more)

pub take_least : (n : ℕ) (xs : List ℕ) → take (min (length xs) n) xs ≡ take n xs
take_least n xs = let is : min (length xs) n ≡ min n (length xs) = omega arith in ap (λ m. take m xs) is ∙ take_min n xs

and_assoc : (a b c : Bool) → (a && (b && c)) ≡ ((a && b) && c)
and_assoc true b c = refl
and_assoc false b c = refl

-- lists that are compared in two parts
pub compared : (xs ws ys bs : List ℕ) → length xs ≡ length ws
    → pointwise ◌==◌ (xs ++ ys) (ws ++ bs) ≡ (pointwise ◌==◌ xs ws && pointwise ◌==◌ ys bs)
compared [] [] ys bs is = refl
compared [] (w ∷ ws) ys bs is = absurd (omega arith)
compared (x ∷ xs) [] ys bs is = absurd (omega arith)
compared (x ∷ xs) (w ∷ ws) ys bs is =
    ap (λ b. (x == w) && b) (compared xs ws ys bs (omega arith))
    ∙ and_assoc (x == w) (pointwise ◌==◌ xs ws) (pointwise ◌==◌ ys bs)
