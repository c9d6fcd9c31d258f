-- A taking window beside the octets that came and those that were granted.
use Rattle.std.proofs.Common.{◌≡◌, ℕ, ◌+◌, ◌-◌, ◌≤◌, ◌<◌, true, refl, arith}
use Rattle.std.specs.Prelude.{nat_lt}
use Rattle.std.proofs.lemmas.Bool.Decides.{nat_tests}
use Rattle.hb_windows.specs.Taking.{Taking}
use Rattle.hb_flow.specs.Windows.{first_size, worth_granting, whole_taking, taken, owing}

-- all that came is owed at once, and what is owed is granted where that is worth it: of a octets that came, i are granted
pub record OfConnection (t : Taking) (a i : ℕ) : Type 0 where
  pub all : t.granted + t.owed ≡ first_size
  pub kept : t.kept ≡ 0
  pub short : t.owed < worth_granting
  pub sum : t.granted + a ≡ first_size + i

-- of a octets that came, i are granted, c are to be, and k are kept
pub record OfStream (t : Taking) (a i c k : ℕ) : Type 0 where
  pub all : t.granted + t.kept + t.owed ≡ first_size
  pub kept : t.kept ≡ k
  pub low : c ≤ t.granted
  pub sum : t.granted + a ≡ first_size + i + c

pub whole_new : OfConnection whole_taking 0 0
whole_new = record { all = refl; kept = refl; short = omega arith; sum = refl }

pub part_new : OfStream whole_taking 0 0 0 0
part_new = record { all = refl; kept = refl; low = omega arith; sum = refl }

-- what is owed is granted
abbrev pub granting : Taking → Taking
granting t = record t { granted = t.granted + t.owed; owed = 0 }

-- n octets come, and are owed
pub used_short : (t : Taking) (a i n : ℕ) → n ≤ t.granted → nat_lt (owing (taken t n) n).owed worth_granting ≡ true → OfConnection t a i
    → OfConnection (owing (taken t n) n) (a + n) i
used_short t a i n within test h = record {
  all = omega (arith, h.all, within);
  kept = omega (arith, h.kept);
  short = grind (arith, nat_tests, test);
  sum = omega (arith, h.sum, within);
}

pub used_granted : (t : Taking) (a i n : ℕ) → n ≤ t.granted → OfConnection t a i
    → OfConnection (granting (owing (taken t n) n)) (a + n) (i + (t.owed + n))
used_granted t a i n within h = record {
  all = omega (arith, h.all, within);
  kept = omega (arith, h.kept);
  short = omega arith;
  sum = omega (arith, h.sum, h.all, within);
}

pub owed_fits : (t : Taking) (a i n : ℕ) → n ≤ t.granted → OfConnection t a i → t.owed + n < 2147483648
owed_fits t a i n within h = omega (arith, h.all, within)

-- n octets come, of which all but `size` are owed
pub part_came : (t : Taking) (a i k n size : ℕ) → n ≤ t.granted → size ≤ n → OfStream t a i 0 k
    → OfStream (owing (taken t n) (n - size)) (a + n) i 0 (k + size)
part_came t a i k n size within fits h = record {
  all = omega (arith, h.all, within, fits);
  kept = omega (arith, h.kept, fits);
  low = omega arith;
  sum = omega (arith, h.sum, within);
}

-- n octets that were kept are owed
pub part_owed : (t : Taking) (a i c k n : ℕ) → n ≤ t.kept → OfStream t a i c k → OfStream (owing t n) a i c (k - n)
part_owed t a i c k n within h = record {
  all = omega (arith, h.all, within);
  kept = omega (arith, h.kept);
  low = h.low;
  sum = h.sum;
}

-- what is owed is granted by a frame that is put, or by one that is to be
pub part_put : (t : Taking) (a i k : ℕ) → OfStream t a i 0 k → OfStream (granting t) a (i + t.owed) 0 k
part_put t a i k h =
    record { all = omega (arith, h.all); kept = h.kept; low = omega arith; sum = omega (arith, h.sum) }

pub part_later : (t : Taking) (a i c k : ℕ) → OfStream t a i c k → OfStream (granting t) a i (c + t.owed) k
part_later t a i c k h =
    record { all = omega (arith, h.all); kept = h.kept; low = omega (arith, h.low); sum = omega (arith, h.sum) }

-- a frame that was to be put is put
pub part_paid : (t : Taking) (a i c k : ℕ) → OfStream t a i c k → OfStream t a (i + c) 0 k
part_paid t a i c k h = record { all = h.all; kept = h.kept; low = omega arith; sum = omega (arith, h.sum) }

pub part_fits : (t : Taking) (a i c k : ℕ) → OfStream t a i c k → (c + t.owed < 2147483648) × (t.owed < 2147483648)
part_fits t a i c k h = (omega (arith, h.all, h.low), omega (arith, h.all))
