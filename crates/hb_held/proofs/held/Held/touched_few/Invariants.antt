use Rattle.std.proofs.Common.{◌≡◌, ◌++◌, ℕ, List, Option, Some}
use Rattle.std.specs.List.{flat_map}
use Rattle.std.specs.FinMap.{entries}
use Rattle.hb_records.specs.declared.address.AddressRecord.{AddressRecord}
use Rattle.hb_held.specs.declared.versioned.Versioned.{Versioned}
use Rattle.hb_held.specs.Few.{numbers_under, if_few}
use Rattle.hb_held.proofs.held.Held.touched_few.Given as goal

-- the numbers under the names that were passed over, which are at most eight
abbrev pub invariant-loop-name : goal.invariant-loop-name
invariant-loop-name l =
    record {
      can : (goal.iterator-loop-name).can_next l.rest;
      ends : (goal.iterator-loop-name).is_finite l.rest;
      passed : List (List ℕ × Option (Versioned AddressRecord));
      all : passed ++ l.rest ≡ entries l.self.past_addresses;
      under : l.few ≡ flat_map (numbers_under l.self) passed;
      few : if_few l.few ≡ Some l.few;
    }
