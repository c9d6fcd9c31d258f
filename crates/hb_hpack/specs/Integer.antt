-- Integers with a prefix (RFC 7541 section 5.1).
use Rattle.std.specs.Prelude.{◌≡◌, ℕ, ◌+◌, ◌-◌, ◌*◌, ◌^◌, ◌<◌, ◌≤◌, List, [], ◌∷◌, length}

-- groups of seven bits make the number, least first, the top bit set on all but the last
abbrev pub AreGroups : List ℕ → ℕ → Type 0
AreGroups [] n = ⊥
AreGroups (b ∷ []) n = (b < 128) × (n ≡ b)
AreGroups (b ∷ c ∷ bs) n = (128 ≤ b) × (b < 256) × (high : ℕ) × (n + 128 ≡ b + 128 * high) × AreGroups (c ∷ bs) high

-- the number that fills a prefix of so many bits
abbrev pub full : ℕ → ℕ
full prefix = 2 ^ prefix - 1

-- The bytes are the number with a prefix of so many bits, the bits above which make flag: either it is in the
-- prefix, or the prefix is all ones and at most five groups have the rest. It is below 2 ^ 32.
pub data IsInteger (prefix flag n : ℕ) (bytes : List ℕ) : Type 0 where
  within : n < full prefix → bytes ≡ (flag + n) ∷ [] → IsInteger prefix flag n bytes
  beyond : (groups : List ℕ) (rest : ℕ) → bytes ≡ (flag + full prefix) ∷ groups → AreGroups groups rest → length groups ≤ 5
      → n ≡ full prefix + rest → n < 2 ^ 32 → IsInteger prefix flag n bytes
