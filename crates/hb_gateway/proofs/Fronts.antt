-- A write of what is left of a front header, and of what waits behind it.
use Rattle.std.proofs.Common.{◌≡◌, ℕ, zero, suc, ◌-◌, List, [], ◌∷◌, ◌++◌, length, take, drop, refl, ap, sym, ◌∙◌, arith, length-append}
use Rattle.std.proofs.lemmas.List.{append_assoc, length-take}

-- a front of one list and then of another one, and what is behind it
pub take_append : {A : Type 0} (n : ℕ) (xs ys : List A) → take n (xs ++ ys) ≡ take n xs ++ take (n - length xs) ys
take_append zero [] ys = refl
take_append zero (x ∷ xs) ys = ap (λ (m : ℕ). take m ys) (let none : 0 ≡ 0 - length (x ∷ xs) = omega arith in none)
take_append (suc n) [] ys = ap (λ (m : ℕ). take m ys) (let all : suc n ≡ suc n - 0 = omega arith in all)
take_append (suc n) (x ∷ xs) ys =
    ap (λ zs. x ∷ zs) (take_append n xs ys)
    ∙ ap (λ (m : ℕ). x ∷ (take n xs ++ take m ys)) (let same : n - length xs ≡ suc n - length (x ∷ xs) = omega arith in same)

pub drop_append : {A : Type 0} (n : ℕ) (xs ys : List A) → drop n (xs ++ ys) ≡ drop n xs ++ drop (n - length xs) ys
drop_append zero [] ys = refl
drop_append zero (x ∷ xs) ys = ap (λ (m : ℕ). (x ∷ xs) ++ drop m ys) (let none : 0 ≡ 0 - length (x ∷ xs) = omega arith in none)
drop_append (suc n) [] ys = ap (λ (m : ℕ). drop m ys) (let all : suc n ≡ suc n - 0 = omega arith in all)
drop_append (suc n) (x ∷ xs) ys =
    drop_append n xs ys
    ∙ ap (λ (m : ℕ). drop n xs ++ drop m ys) (let same : n - length xs ≡ suc n - length (x ∷ xs) = omega arith in same)

-- bytes of what waits are the first ones left of the front, and then the first ones behind it
pub record Splits (front behind bytes : List ℕ) : Type 0 where
  pub first : front ≡ take (length front) bytes ++ drop (length bytes) front
  pub more : List ℕ
  pub second : behind ≡ drop (length front) bytes ++ more

pub splits : (front behind bytes rest : List ℕ) → front ++ behind ≡ bytes ++ rest → Splits front behind bytes
splits [] behind [] rest is = record { first = refl; more = rest; second = is }
splits [] behind (b ∷ bs) rest is = record { first = refl; more = rest; second = is }
splits (f ∷ fs) behind [] rest is = record { first = refl; more = behind; second = refl }
splits (f ∷ fs) behind (b ∷ bs) rest is =
    let inner = splits fs behind bs rest (cc) in
    let same : f ≡ b = cc in
    record {
      first = ap (λ zs. f ∷ zs) inner.first ∙ ap (λ z. z ∷ (take (length fs) bs ++ drop (length bs) fs)) same;
      more = inner.more;
      second = inner.second;
    }

module _ (header went front behind bytes rest : List ℕ) (left : header ≡ take (length header) went ++ front)
    (is : front ++ behind ≡ bytes ++ rest) where
  size : length header - length went ≡ length front
  size = omega (arith, ap length left, length-append (take (length header) went) front, length-take (length header) went)

  -- what went of the header, and what is left of it
  pub header_went : header ≡ take (length header) (went ++ bytes) ++ drop (length bytes) front
  header_went =
      left ∙ ap (λ (xs : List ℕ). take (length header) went ++ xs) (splits front behind bytes rest is).first
      ∙ sym (append_assoc (take (length header) went) (take (length front) bytes) (drop (length bytes) front))
      ∙ ap (λ (xs : List ℕ). xs ++ drop (length bytes) front)
      (sym (take_append (length header) went bytes
      ∙ ap (λ (n : ℕ). take (length header) went ++ take n bytes) size))

  -- what went behind it
  pub behind_went : drop (length header) (went ++ bytes) ≡ drop (length header) went ++ drop (length front) bytes
  behind_went = drop_append (length header) went bytes ∙ ap (λ (n : ℕ). drop (length header) went ++ drop n bytes) size
