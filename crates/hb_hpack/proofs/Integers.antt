-- Integers with a prefix: the numbers of the reader fit, and reading is the grammar.
use Rattle.std.proofs.Common.{◌≡◌, ℕ, suc, ◌-◌, ◌*◌, ◌%◌, ◌^◌, ◌<◌, ◌≤◌, List, ◌∷◌, Ok, refl, arith, bit_and}
use Rattle.std.proofs.Math.Nat.{pow-le-pow_right}
use Rattle.std.proofs.lemmas.Nat.{mul-le, one_shl, and_mask}
use Rattle.std.proofs.lemmas.Bool.{lt-ltb, le-ltb}
use Rattle.hb_hpack.specs.Integer.{full}
use Rattle.hb_hpack.specs.Reader.{groups_from, integer_at}

-- the weight of a group that may be there
pub weight_small : (left weight : ℕ) → 0 < left → weight ≡ 128 ^ (5 - left) → weight ≤ 2 ^ 28
weight_small left weight some e =
    let p : 128 ^ (5 - left) ≤ 128 ^ 4 = pow-le-pow_right {n = 128} (omega arith) {i = 5 - left} {j = 4} (omega arith) in
    omega (arith, p, e)

pub weight_next : (left weight : ℕ) → 0 < left → left ≤ 5 → weight ≡ 128 ^ (5 - left) → 128 * weight ≡ 128 ^ (5 - (left - 1))
weight_next left weight some le e =
    let next : 5 - (left - 1) ≡ suc (5 - left) = omega arith in
    rw (next, e) (omega arith)

-- a group's part of the number
pub group_small : (left weight low : ℕ) → 0 < left → weight ≡ 128 ^ (5 - left) → low < 128 → low * weight ≤ 128 * 2 ^ 28
group_small left weight low some e lt = mul-le low weight 128 (2 ^ 28) (omega arith) (weight_small left weight some e)

-- the mask of a prefix
pub full_is : (prefix : ℕ) → prefix < 8 → (1 * 2 ^ prefix) % 2 ^ 8 - 1 ≡ full prefix
full_is prefix lt = rw (one_shl prefix 8 lt) refl

pub low_is : (b prefix : ℕ) → prefix < 8 → bit_and b ((1 * 2 ^ prefix) % 2 ^ 8 - 1) ≡ b % 2 ^ prefix
low_is b prefix lt = rw (one_shl prefix 8 lt) (and_mask b prefix)

-- the integer that is in its prefix
pub integer_within : (prefix b : ℕ) (rest : List ℕ) → b % 2 ^ prefix < full prefix
    → integer_at prefix (b ∷ rest) ≡ Ok (b % 2 ^ prefix, rest)
unfolding integer_at
integer_within prefix b rest lt = rw (lt-ltb (b % 2 ^ prefix) (full prefix) lt, integer_at) refl

-- the integer that goes beyond it
pub integer_beyond : (prefix b : ℕ) (rest : List ℕ) → full prefix ≤ b % 2 ^ prefix
    → integer_at prefix (b ∷ rest) ≡ groups_from 5 1 (full prefix) rest
unfolding integer_at
integer_beyond prefix b rest le = rw (le-ltb (b % 2 ^ prefix) (full prefix) le, integer_at) refl
