-- Groups of seven bits, one by one.
use Rattle.std.proofs.Common.{◌≡◌, ℕ, zero, suc, ◌+◌, ◌-◌, ◌/◌, ◌%◌, ◌<◌, ◌≤◌, List, [], ◌∷◌, length, refl, arith, inl, inr}
use Rattle.std.proofs.lemmas.Bool.{lt-ltb, le-ltb, cases_lt}
use Rattle.hb_base.specs.Groups.{groups_of}

pub groups_none : (n : ℕ) → groups_of 0 n ≡ []
unfolding groups_of
groups_none n = refl

pub groups_end : (most n : ℕ) → n < 128 → groups_of (suc most) n ≡ n ∷ []
unfolding groups_of
groups_end most n lt = rw (lt-ltb n 128 lt, groups_of) refl

pub groups_step : (most n : ℕ) → 128 ≤ n → groups_of (suc most) n ≡ (n % 128 + 128) ∷ groups_of most (n / 128)
unfolding groups_of
groups_step most n le = rw (le-ltb n 128 le, groups_of) refl

pub groups_last : (most n : ℕ) → 0 < most → n < 128 → groups_of most n ≡ n ∷ []
groups_last zero n some lt = absurd (omega arith)
groups_last (suc most) n some lt = groups_end most n lt

pub groups_more : (most n : ℕ) → 0 < most → 128 ≤ n → groups_of most n ≡ (n % 128 + 128) ∷ groups_of (most - 1) (n / 128)
groups_more zero n some le = absurd (omega arith)
groups_more (suc most) n some le = let same : suc most - 1 ≡ most = omega arith in rw (groups_step most n le, same) refl

pub groups_few : (most n : ℕ) → length (groups_of most n) ≤ most
groups_few zero n = rw (groups_none n) (omega arith)
groups_few (suc most) n =
    elim (cases_lt n 128) [
      | inl small ↦ rw (groups_end most n small) (omega arith)
      | inr large ↦ let few = groups_few most (n / 128) in rw (groups_step most n large) (omega (arith, few))
    ]
