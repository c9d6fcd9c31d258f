use Rattle.std.proofs.Common.{◌≡◌}
use Rattle.std.specs.List.{find}
use Rattle.hb_held.specs.Policies.{policies_for, policies_left}
use Rattle.hb_reason.specs.Denial.{denies}
use Rattle.hb_reason.proofs.denial.first_denial.Given as goal

-- the first of those that are left is the first of all
abbrev pub invariant-loop-policy : goal.invariant-loop-policy
invariant-loop-policy l =
    find (denies (record { peer = l.peer; target = l.target })) (policies_left l.policies)
    ≡ find (denies (record { peer = l.peer; target = l.target })) (policies_for l.held l.workload)
