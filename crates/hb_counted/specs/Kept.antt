-- What is known of the counts between two calls. No public clause cites this file.
use Rattle.std.specs.Prelude.{◌≡◌, ℕ, ◌<◌, ◌^◌, ◌==◌, IsSome, if◌then◌else◌}
use Rattle.std.specs.Ordering.{nat_cmp}
use Rattle.std.specs.FinMap.{FinMap, get}
use Rattle.hb_counted.specs.declared.classes.Classes.{Classes}
use Rattle.hb_counted.specs.declared.counted.Tally.{Tally}
use Rattle.hb_counted.specs.Classes.{classes_in, counts_by}
use Rattle.hb_counted.specs.Starts.{AreStarts}

module _ {T : Type 0} where
  -- the classes for which a number is counted: the one that was lent last for those that it had
  abbrev pub seen : (T → Classes) → Tally → FinMap nat_cmp T → ℕ → Classes
  seen classes tally m n = if n == tally.lent then tally.was else classes_in classes (get m n)

  pub record IsKept (classes : T → Classes) (tally : Tally) (m : FinMap nat_cmp T) : Type 0 where
    pub counted : tally.counts ≡ counts_by (seen classes tally m)
    pub starts : AreStarts tally.starts (seen classes tally m)
    -- the numbers have 32 bits
    pub narrow : (n : ℕ) → IsSome (get m n) → n < 2 ^ 32
    pub lent : tally.lent < 2 ^ 32
