-- What is read as an integer is one, and an integer is read.
use Rattle.std.proofs.Common.{◌≡◌, ℕ, zero, suc, ◌+◌, ◌*◌, ◌/◌, ◌%◌, ◌^◌, ◌<◌, ◌≤◌, ltb, List, [], ◌∷◌, ◌++◌, length, Ok, refl, sym, ap, ◌∙◌, arith, inl, inr}
use Rattle.std.proofs.lemmas.Bool.{lt-ltb, le-ltb, ltb-true, ltb-false}
use Rattle.std.proofs.lemmas.Nat.{pow_pos, shr_split, mod_low}
use Rattle.hb_hpack.specs.Integer.{AreGroups, full, IsInteger}
use Rattle.hb_hpack.specs.Reader.{groups_from, integer_at}
use Rattle.hb_hpack.proofs.Outcomes.{ok_is, chosen, no_value, AreOctets}
use Rattle.hb_hpack.proofs.Integers.{integer_within, integer_beyond}

-- the groups that were read
pub record TakesGroups (left weight n : ℕ) (bytes : List ℕ) (value : ℕ) (rest : List ℕ) : Type 0 where
  pub groups : List ℕ
  pub high : ℕ
  pub parts : bytes ≡ groups ++ rest
  pub are : AreGroups groups high
  pub few : length groups ≤ left
  pub value_is : value ≡ n + weight * high
  pub small : value < 2 ^ 32

one_more : (b : ℕ) (groups : List ℕ) (high : ℕ) → 128 ≤ b → b < 256 → AreGroups groups high → AreGroups (b ∷ groups) (b % 128 + 128 * high)
one_more b [] high le lt are = absurd are
one_more b (c ∷ groups) high le lt are = (le, lt, high, omega arith, are)

pub groups_take : (bytes : List ℕ) (left weight n value : ℕ) (rest : List ℕ) → AreOctets bytes
    → groups_from left weight n bytes ≡ Ok (value, rest) → TakesGroups left weight n bytes value rest
unfolding groups_from
groups_take [] left weight n value rest o e = absurd (no_value _ _ e)
groups_take (b ∷ bytes) zero weight n value rest o e = absurd (no_value _ _ e)
groups_take (b ∷ bytes) (suc left) weight n value rest o e =
    elim (chosen (ltb (n + b % 128 * weight) (2 ^ 32)) _ _ _ e) [
      | inr p ↦ absurd (no_value _ _ p.1)
      | inl p ↦ elim (chosen (ltb b 128) _ _ _ p.1) [
        | inl q ↦
            let small : b < 128 = ltb-true b 128 q.0 in
            let is = ok_is (n + b % 128 * weight, bytes) (value, rest) q.1 in
            let value_is : n + b % 128 * weight ≡ value = ap (λ (x : ℕ × List ℕ). x.0) is in
            let rest_is : bytes ≡ rest = ap (λ (x : ℕ × List ℕ). x.1) is in
            let low : b % 128 ≡ b = omega arith in
            record {
              groups = b ∷ [];
              high = b;
              parts = ap (λ (xs : List ℕ). b ∷ xs) rest_is;
              are = (small, refl);
              few = omega arith;
              value_is = sym value_is ∙ rw low (omega arith);
              small = omega (arith, ltb-true _ _ p.0);
            }
        | inr q ↦
            let r = groups_take bytes left (128 * weight) (n + b % 128 * weight) value rest o.1 q.1 in
            record {
              groups = b ∷ r.groups;
              high = b % 128 + 128 * r.high;
              parts = ap (λ (xs : List ℕ). b ∷ xs) r.parts;
              are = one_more b r.groups r.high (ltb-false b 128 q.0) o.0 r.are;
              few = omega (arith, r.few);
              value_is = r.value_is ∙ omega arith;
              small = r.small;
            }
      ]
    ]

pub groups_again : (groups : List ℕ) (high : ℕ) (rest : List ℕ) (left weight n : ℕ) → AreGroups groups high → length groups ≤ left
    → n + weight * high < 2 ^ 32
    → groups_from left weight n (groups ++ rest) ≡ Ok (n + weight * high, rest)
unfolding groups_from
groups_again [] high rest left weight n are few small = absurd are
groups_again (b ∷ groups) high rest zero weight n are few small = absurd (omega arith)
groups_again (b ∷ []) high rest (suc left) weight n are few small =
    let low : b % 128 ≡ b = omega (arith, are.0) in
    let value : n + b % 128 * weight ≡ n + weight * high = rw (low, are.1) (omega arith) in
    let fits : n + b % 128 * weight < 2 ^ 32 = omega (arith, value) in
    rw (lt-ltb (n + b % 128 * weight) (2 ^ 32) fits, lt-ltb b 128 are.0, groups_from) (ap (λ v. Ok (v, rest)) value)
groups_again (b ∷ c ∷ groups) high rest (suc left) weight n are few small =
    let low : b % 128 + 128 ≡ b = omega (arith, are.0, are.1) in
    let high_is : high ≡ b % 128 + 128 * are.2 = omega (arith, are.3) in
    let value : n + b % 128 * weight + 128 * weight * are.2 ≡ n + weight * high = rw high_is (omega arith) in
    let fits : n + b % 128 * weight < 2 ^ 32 = omega (arith, value) in
    rw (lt-ltb (n + b % 128 * weight) (2 ^ 32) fits, le-ltb b 128 are.0, groups_from)
    (groups_again (c ∷ groups) are.2 rest left (128 * weight) (n + b % 128 * weight) are.4 (omega arith) (omega (arith, value))
    ∙ ap (λ v. Ok (v, rest)) value)

-- the integer that was read, behind these bits of the first byte
pub record TakesInteger (prefix flag : ℕ) (bytes : List ℕ) (n : ℕ) (rest : List ℕ) : Type 0 where
  pub front : List ℕ
  pub parts : bytes ≡ front ++ rest
  pub is : IsInteger prefix flag n front

pub integer_take : (prefix flag b : ℕ) (bytes : List ℕ) (n : ℕ) (rest : List ℕ) → AreOctets (b ∷ bytes) → b ≡ flag + b % 2 ^ prefix
    → integer_at prefix (b ∷ bytes) ≡ Ok (n, rest)
    → TakesInteger prefix flag (b ∷ bytes) n rest
unfolding integer_at
integer_take prefix flag b bytes n rest o flag_is e =
    elim (chosen (ltb (b % 2 ^ prefix) (full prefix)) _ _ _ e) [
      | inl p ↦
          let is = ok_is (b % 2 ^ prefix, bytes) (n, rest) p.1 in
          let n_is : b % 2 ^ prefix ≡ n = ap (λ (x : ℕ × List ℕ). x.0) is in
          let rest_is : bytes ≡ rest = ap (λ (x : ℕ × List ℕ). x.1) is in
          let lt : n < full prefix = omega (arith, ltb-true _ _ p.0) in
          let first : b ≡ flag + n = omega arith in
          record {
            front = b ∷ [];
            parts = ap (λ (xs : List ℕ). b ∷ xs) rest_is;
            is = IsInteger.within lt (ap (λ x. x ∷ []) first);
          }
      | inr p ↦
          let r = groups_take bytes 5 1 (full prefix) n rest o.1 p.1 in
          let le : full prefix ≤ b % 2 ^ prefix = ltb-false _ _ p.0 in
          let below : b % 2 ^ prefix < 2 ^ prefix = omega (arith, pow_pos prefix) in
          let low : b % 2 ^ prefix ≡ full prefix = omega arith in
          let first : b ≡ flag + full prefix = flag_is ∙ ap (λ x. flag + x) low in
          record {
            front = b ∷ r.groups;
            parts = ap (λ (xs : List ℕ). b ∷ xs) r.parts;
            is = IsInteger.beyond r.groups r.high (ap (λ x. x ∷ r.groups) first) r.are r.few (omega (arith, r.value_is)) r.small;
          }
    ]

pub low_of : (prefix flag n : ℕ) → flag % 2 ^ prefix ≡ 0 → n < 2 ^ prefix → (flag + n) % 2 ^ prefix ≡ n
low_of prefix flag n clear lt =
    let whole : flag / 2 ^ prefix * 2 ^ prefix + flag % 2 ^ prefix ≡ flag = shr_split flag prefix in
    let flag_is : flag ≡ flag / 2 ^ prefix * 2 ^ prefix = omega arith in
    rw flag_is (mod_low (flag / 2 ^ prefix) prefix n lt)

-- an integer is read behind any bits above its prefix
pub integer_again : (prefix flag n : ℕ) (front rest : List ℕ) → flag % 2 ^ prefix ≡ 0 → IsInteger prefix flag n front
    → integer_at prefix (front ++ rest) ≡ Ok (n, rest)
integer_again prefix flag n front rest clear (IsInteger.within lt is) =
    let some : 0 < 2 ^ prefix = pow_pos prefix in
    let low : (flag + n) % 2 ^ prefix ≡ n = low_of prefix flag n clear (omega arith) in
    let below : (flag + n) % 2 ^ prefix < full prefix = omega (arith, low) in
    ap (λ (xs : List ℕ). integer_at prefix (xs ++ rest)) is ∙ integer_within prefix (flag + n) rest below ∙ ap (λ v. Ok (v, rest)) low
integer_again prefix flag n front rest clear (IsInteger.beyond groups high is are few n_is small) =
    let some : 0 < 2 ^ prefix = pow_pos prefix in
    let low : (flag + full prefix) % 2 ^ prefix ≡ full prefix = low_of prefix flag (full prefix) clear (omega arith) in
    let above : full prefix ≤ (flag + full prefix) % 2 ^ prefix = omega (arith, low) in
    let value : full prefix + 1 * high ≡ n = omega arith in
    ap (λ (xs : List ℕ). integer_at prefix (xs ++ rest)) is ∙ integer_beyond prefix (flag + full prefix) (groups ++ rest) above
    ∙ groups_again groups high rest 5 1 (full prefix) are few (omega arith) ∙ ap (λ v. Ok (v, rest)) value

-- an integer has a first byte
pub integer_some : (prefix flag n : ℕ) (front : List ℕ) → IsInteger prefix flag n front
    → (b : ℕ) × (more : List ℕ) × (front ≡ b ∷ more) × (flag ≤ b) × (b < flag + 2 ^ prefix)
integer_some prefix flag n front (IsInteger.within lt is) = let some : 0 < 2 ^ prefix =
    pow_pos prefix in (flag + n, [], is, omega arith, omega arith)
integer_some prefix flag n front (IsInteger.beyond groups high is are few n_is small) = let some : 0 < 2 ^ prefix =
    pow_pos prefix in (flag + full prefix, groups, is, omega arith, omega arith)
