-- What is written is spelled so, and in no fewer bytes.
use Rattle.std.proofs.Common.{◌≡◌, ◌≢◌, ℕ, zero, suc, ◌+◌, ◌-◌, ◌*◌, ◌/◌, ◌%◌, ◌^◌, ◌<◌, ◌≤◌, List, [], ◌∷◌, ◌++◌, length, refl, arith, inl, inr}
use Rattle.std.proofs.Math.Nat.{pow-suc}
use Rattle.std.proofs.Math.Dec.{eqb-suc-zero}
use Rattle.std.proofs.lemmas.Bool.{lt-ltb, le-ltb, cases_lt}
use Rattle.hb_wire.specs.Field.{varint, span}
use Rattle.hb_wire.specs.WireType.{varint_type, span_type}
use Rattle.hb_wire.specs.Spelling.{IsBase128, IsVarint, SpellsField}
use Rattle.hb_base.specs.Groups.{groups_of}
use Rattle.hb_base.proofs.GroupLemmas.{groups_none, groups_end, groups_step, groups_few}
use Rattle.hb_wire.specs.Writing.{varint_of, tag_of, number_of, bytes_of}

-- one more group in front
group_before : (b n high : ℕ) (bytes : List ℕ) → 128 ≤ b → b < 256 → n + 128 ≡ b + 128 * high → IsBase128 bytes high
    → IsBase128 (b ∷ bytes) n
group_before b n high [] le lt e is = absurd is
group_before b n high (c ∷ bytes) le lt e is = (le, lt, high, e, is)

groups_are : (k n : ℕ) → n < 128 ^ suc k → IsBase128 (groups_of (suc k) n) n
groups_are zero n lt = let small : n < 128 = omega (arith, lt) in rw (groups_end 0 n small) (small, refl)
groups_are (suc k) n lt =
    elim (cases_lt n 128) [
      | inl small ↦ rw (groups_end (suc k) n small) (small, refl)
      | inr large ↦
          let fits : n / 128 < 128 ^ suc k = omega (arith, lt, pow-suc 128 (suc k)) in
          rw (groups_step (suc k) n large) (group_before (n % 128 + 128) n (n / 128) _ (omega arith) (omega arith) (omega arith)
          (groups_are k (n / 128) fits))
    ]

-- no spelling has fewer bytes
pub groups_shortest : (bytes : List ℕ) (k n : ℕ) → IsBase128 bytes n → length (groups_of k n) ≤ length bytes
groups_shortest [] k n is = absurd is
groups_shortest (b ∷ bytes) zero n is = rw (groups_none n) (omega arith)
groups_shortest (b ∷ []) (suc k) n is = let small : n < 128 = omega (arith, is.0, is.1) in rw (groups_end k n small) (omega arith)
groups_shortest (b ∷ c ∷ bytes) (suc k) n is =
    let (le, lt, high, e, rest) = is in
    elim (cases_lt n 128) [
      | inl small ↦ rw (groups_end k n small) (omega arith)
      | inr large ↦
          let high_is : n / 128 ≡ high = omega (arith, le, lt, e) in
          let few = groups_shortest (c ∷ bytes) k high rest in
          rw (groups_step k n large, high_is) (omega (arith, few))
    ]

pub varint_is : (n : ℕ) → n < 2 ^ 64 → IsVarint (varint_of n) n
varint_is n lt = record { base128 = groups_are 9 n (omega (arith, lt)); few = groups_few 10 n; small = lt }

-- a number that isn't the default is written
pub number_some : (number v : ℕ) → v ≢ 0 → number_of number v ≡ tag_of number varint_type ++ varint_of v
number_some number zero some = absurd (some refl)
number_some number (suc v) some = rw (eqb-suc-zero v) refl

-- a number's field
pub number_spelled : (at number v : ℕ) → 0 < number → number < 2 ^ 29 → 0 < v → v < 2 ^ 64
    → SpellsField at (number_of number v)
    (record { number = number; at = at + length (tag_of number varint_type); value = varint v })
number_spelled at number v some small there lt = rw (number_some number v (omega (arith, there))) (record {
  tag = tag_of number varint_type;
  behind = varint_of v;
  cut = refl;
  is_tag = varint_is (8 * number + varint_type) (omega (arith, small));
  some = some;
  small = small;
  value = (refl, varint_is v lt);
})

-- a field of bytes
pub bytes_spelled : (at number : ℕ) (own : List ℕ) → 0 < number → number < 2 ^ 29 → length own < 2 ^ 64
    → SpellsField at (bytes_of number own)
    (record { number = number; at = at + length (tag_of number span_type) + length (varint_of (length own)); value = span own })
bytes_spelled at number own some small lt = record {
  tag = tag_of number span_type;
  behind = varint_of (length own) ++ own;
  cut = refl;
  is_tag = varint_is (8 * number + span_type) (omega (arith, small));
  some = some;
  small = small;
  value = (varint_of (length own), refl, varint_is (length own) lt, refl);
}
