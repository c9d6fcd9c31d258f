use Rattle.std.proofs.Common.{◌≡◌}
use Rattle.std.specs.Prelude.{◌||◌}
use Rattle.std.specs.List.{list_any}
use Rattle.std.specs.FinMap.{get}
use Rattle.hb_held.specs.Touched.{stands_for, had_policy}
use Rattle.hb_held.proofs.held.Held.had_policy.Given as goal

-- what was passed over isn't for the workload, and wasn't
abbrev pub invariant-loop-name : goal.invariant-loop-name
invariant-loop-name l =
    record {
      can : (goal.iterator-loop-name).can_next l.rest;
      ends : (goal.iterator-loop-name).is_finite l.rest;
      left : list_any (λ e. stands_for l.workload e.1 || stands_for l.workload (get l.self.policies e.0)) l.rest
          ≡ had_policy l.self l.workload;
    }
