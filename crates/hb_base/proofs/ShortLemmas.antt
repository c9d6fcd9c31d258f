-- Few bytes that are filled.
use Rattle.std.proofs.Common.{◌≡◌, ℕ, ◌+◌, ◌-◌, ◌≤◌, List, ◌++◌, length, take, min, length-take, sym, ap, ◌∙◌, arith}
use Rattle.std.proofs.Math.Seq.{take-append-add}
use Rattle.std.proofs.lemmas.List.{take_min}

pub take_joined : (n : ℕ) (xs ys : List ℕ) → length xs ≤ n → take n (xs ++ ys) ≡ xs ++ take (n - length xs) ys
take_joined n xs ys h =
    let is : n ≡ length xs + (n - length xs) = omega (arith, h) in
    ap (λ k. take k (xs ++ ys)) is ∙ take-append-add xs ys (n - length xs)

pub filled : (bytes new p front : List ℕ) (most known n : ℕ) → length (take known bytes) ≡ known → known ≤ most
    → take (known + length front) new ≡ take known bytes ++ front → front ≡ take n p → n ≡ min (length p) (most - known)
    → take (known + n) new ≡ take most (take known bytes ++ p)
filled bytes new p front most known n len known_le written front_is n_is =
    let front_len : length front ≡ n = omega (arith, n_is, ap length front_is, length-take n p) in
    let rest : front ≡ take (most - length (take known bytes)) p =
    front_is ∙ ap (λ k. take k p) (omega (arith, n_is, len)) ∙ take_min (most - length (take known bytes)) p in
    ap (λ k. take (known + k) new) (sym front_len) ∙ written ∙ ap (λ xs. take known bytes ++ xs) rest
    ∙ sym (take_joined most (take known bytes) p (omega (arith, len, known_le)))
