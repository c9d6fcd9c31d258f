-- The bound of a varint's value, from one byte to the next.
use Rattle.std.proofs.Common.{◌≡◌, ℕ, ◌+◌, ◌-◌, ◌*◌, ◌^◌, ◌<◌, ◌≤◌, refl, arith, pow-add}
use Rattle.std.proofs.Math.Nat.{pow-le-pow_right}

-- seven more bits
pub seven_more : (k : ℕ) → k ≤ 8 → 2 ^ (64 - 7 * k) ≡ 128 * 2 ^ (64 - 7 * (k + 1))
seven_more k le = let e : 64 - 7 * k ≡ 7 + (64 - 7 * (k + 1)) = omega arith in rw (e, pow-add) refl

-- a byte below 128 is below the bound
pub low_fits : (k b : ℕ) → k ≤ 8 → b < 128 → b < 2 ^ (64 - 7 * k)
low_fits k b le lt =
    let more : 2 ^ 7 ≤ 2 ^ (64 - 7 * k) = pow-le-pow_right {n = 2} (omega arith) {i = 7} {j = 64 - 7 * k} (omega arith) in
    omega arith

-- seven low bits and the rest are below the bound
pub both_fit : (k low high : ℕ) → k ≤ 8 → low < 128 → high < 2 ^ (64 - 7 * (k + 1)) → low + 128 * high < 2 ^ (64 - 7 * k)
both_fit k low high le lt small = let e = seven_more k le in omega (arith, e)

-- the bound fits 64 bits
pub below_word : (k n : ℕ) → n < 2 ^ (64 - 7 * k) → n < 2 ^ 64
below_word k n lt =
    let more : 2 ^ (64 - 7 * k) ≤ 2 ^ 64 = pow-le-pow_right {n = 2} (omega arith) {i = 64 - 7 * k} {j = 64} (omega arith) in
    omega arith
