-- Laws of the bits of numbers.
use Rattle.std.proofs.Common.{◌≡◌, ℕ, zero, suc, ◌+◌, ◌-◌, ◌*◌, ◌/◌, ◌%◌, ◌^◌, ◌<◌, ◌≤◌, List, [], ◌∷◌, ◌++◌, refl, sym, ap, ◌∙◌, arith, replicate, bit_and}
use Rattle.std.specs.List.{AllByRecursion}
use Rattle.std.proofs.lemmas.Nat.{shr-shr, pow_pos, div-add-mod', div-mul-add}
use Rattle.std.proofs.Math.Nat.{add-mul-div_left}
use Rattle.std.proofs.Math.Pow.{mod-mod-pow}
use Rattle.std.proofs.lemmas.Nat.Bits.{shr_and_one}
use Rattle.std.proofs.lemmas.List.{replicate_more}
use Rattle.hb_hpack.specs.Huffman.{bits}

-- one more bit at the end
pub bits_push : (k v b : ℕ) → b < 2 → bits (suc k) (2 * v + b) ≡ bits k v ++ b ∷ []
unfolding bits
bits_push zero v b lt = let e : (2 * v + b) / 2 ^ 0 % 2 ≡ b = omega arith in rw e refl
bits_push (suc k) v b lt =
    let half : (2 * v + b) / 2 ^ 1 ≡ v = omega arith in
    let deep : (2 * v + b) / 2 ^ 1 / 2 ^ k ≡ (2 * v + b) / 2 ^ (1 + k) = shr-shr (2 * v + b) 1 k in
    let same : 1 + k ≡ suc k = omega arith in
    let head : (2 * v + b) / 2 ^ suc k ≡ v / 2 ^ k = ap (λ n. (2 * v + b) / 2 ^ n) (sym same) ∙ sym deep ∙ ap (λ n. n / 2 ^ k) half in
    rw (head, bits_push k v b lt) refl

-- a bit is below two
pub bits_small : (k n : ℕ) → AllByRecursion (λ b. b < 2) (bits k n)
unfolding bits
bits_small zero n = tt
bits_small (suc k) n = (omega arith, bits_small k n)

pub append_small : (xs ys : List ℕ) → AllByRecursion (λ b. b < 2) xs → AllByRecursion (λ b. b < 2) ys
    → AllByRecursion (λ b. b < 2) (xs ++ ys)
append_small [] ys p q = q
append_small (x ∷ xs) ys p q = (p.0, append_small xs ys p.1 q)

-- a number's halves: the front of its bits, and one more
pub next_bit : (c i : ℕ) → 2 * (c / 2 ^ suc i) + c / 2 ^ i % 2 ≡ c / 2 ^ i
next_bit c i =
    let same : i + 1 ≡ suc i = omega arith in
    let deep : c / 2 ^ i / 2 ^ 1 ≡ c / 2 ^ suc i = shr-shr c i 1 ∙ ap (λ n. c / 2 ^ n) same in
    rw (← deep) (omega arith)

-- all ones
pub bits_of_ones : (k n : ℕ) → n + 1 ≡ 2 ^ k → bits k n ≡ replicate k 1
unfolding bits
bits_of_ones zero n e = refl
bits_of_ones (suc k) n e =
    let p : 0 < 2 ^ k = pow_pos k in
    let twice : 2 ^ suc k ≡ 2 * 2 ^ k = omega arith in
    let m : ℕ = 2 ^ k - 1 in
    let n-is : n ≡ 2 * m + 1 = omega arith in
    let front : bits k m ≡ replicate k 1 = bits_of_ones k m (omega arith) in
    let pushed : bits (suc k) (2 * m + 1) ≡ bits k m ++ 1 ∷ [] = bits_push k m 1 (omega arith) in
    let last : List ℕ = 1 ∷ [] in
    let more : replicate k 1 ++ last ≡ replicate (k + 1) 1 = replicate_more k 1 in
    let same : k + 1 ≡ suc k = omega arith in
    rw (n-is, pushed, front, more, same) refl

-- the code's next bit
pub bits_next : (left byte : ℕ) → 0 < left → bits left byte ≡ bit_and (byte / 2 ^ (left - 1)) 1 ∷ bits (left - 1) byte
unfolding bits
bits_next zero byte some = absurd (omega arith)
bits_next (suc k) byte some =
    let same : suc k - 1 ≡ k = omega arith in
    rw (same, shr_and_one byte k) refl

-- a number's bits: those of its upper part, and those of its lower part
pub bits_split : (l k n : ℕ) → bits (l + k) n ≡ bits l (n / 2 ^ k) ++ bits k n
unfolding bits
bits_split zero k n = let same : zero + k ≡ k = omega arith in rw same refl
bits_split (suc l) k n =
    let same : suc l + k ≡ suc (l + k) = omega arith in
    let order : l + k ≡ k + l = omega arith in
    let deep : n / 2 ^ (l + k) ≡ n / 2 ^ k / 2 ^ l = rw order (sym (shr-shr n k l)) in
    rw (same, deep, bits_split l k n) refl

-- what stands above a number's low bits is not among them
pub bits_low : (k q r : ℕ) → bits k (q * 2 ^ k + r) ≡ bits k r
unfolding bits
bits_low zero q r = refl
bits_low (suc k) q r =
    let p : 0 < 2 ^ k = pow_pos k in
    let double : 2 ^ suc k ≡ 2 * 2 ^ k = omega arith in
    let above : q * 2 ^ suc k + r ≡ r + 2 ^ k * (2 * q) = rw double (omega arith) in
    let again : r + 2 ^ k * (2 * q) ≡ 2 * q * 2 ^ k + r = omega arith in
    let part : (r + 2 ^ k * (2 * q)) / 2 ^ k ≡ r / 2 ^ k + 2 * q = add-mul-div_left r (2 * q) p in
    let head : (r / 2 ^ k + 2 * q) % 2 ≡ r / 2 ^ k % 2 = omega arith in
    let tail : bits k (r + 2 ^ k * (2 * q)) ≡ bits k r = rw again (bits_low k (2 * q) r) in
    rw (above, part, head, tail) refl

-- the low bits are those of the rest
pub bits_rest : (k n : ℕ) → bits k (n % 2 ^ k) ≡ bits k n
bits_rest k n = sym (bits_low k (n / 2 ^ k) (n % 2 ^ k)) ∙ ap (bits k) (div-add-mod' n (2 ^ k))

-- the same of fewer bits
pub bits_fewer : (k j n : ℕ) → k ≤ j → bits k (n % 2 ^ j) ≡ bits k n
bits_fewer k j n le =
    let whole : j - k + k ≡ j = omega arith in
    let masked : n % 2 ^ j % 2 ^ k ≡ n % 2 ^ k = rw whole at (mod-mod-pow n (j - k) k) in
    sym (bits_rest k (n % 2 ^ j)) ∙ ap (bits k) masked ∙ bits_rest k n

-- a byte behind a number's bits
pub bits_with : (count n byte : ℕ) → byte < 256 → count ≤ 56 → bits (count + 8) (n % 2 ^ 56 * 256 + byte) ≡ bits count n ++ bits 8 byte
bits_with count n byte lt le =
    let upper : (n % 2 ^ 56 * 256 + byte) / 2 ^ 8 ≡ n % 2 ^ 56 = div-mul-add (n % 2 ^ 56) 256 byte lt in
    let lower : bits 8 (n % 2 ^ 56 * 256 + byte) ≡ bits 8 byte = bits_low 8 (n % 2 ^ 56) byte in
    bits_split count 8 (n % 2 ^ 56 * 256 + byte) ∙ rw (upper, lower, bits_fewer count 56 n le) refl
