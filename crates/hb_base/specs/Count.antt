-- Counts of faults.
use Rattle.std.specs.Prelude.{◌≡◌, ℕ, ◌+◌, ◌-◌, ◌^◌, ◌≤◌, min, Bool, true, false}

-- one more, in a count kept in 64 bits, which stays at its largest number once it is there
abbrev pub one_more : ℕ → ℕ
one_more count = min (count + 1) (2 ^ 64 - 1)

-- the count rose, or stands at its largest number
abbrev pub Rose : ℕ → ℕ → Type 0
Rose before now = one_more before ≤ now

-- a count before and after a call, and whether the call failed: it is one more where it did, and else the same
abbrev pub Counts : ℕ → ℕ → Bool → Type 0
Counts before after true = after ≡ one_more before
Counts before after false = after ≡ before
