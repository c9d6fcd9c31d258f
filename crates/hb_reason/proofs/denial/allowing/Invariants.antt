use Rattle.std.proofs.Common.{◌≡◌, ◌+◌, length}
use Rattle.std.specs.Prelude.{filter}
use Rattle.hb_held.specs.Policies.{policies_for, policies_left}
use Rattle.hb_reason.specs.Denial.{allows}
use Rattle.hb_reason.proofs.denial.allowing.Given as goal

-- with those that are left they are all
abbrev pub invariant-loop-policy : goal.invariant-loop-policy
invariant-loop-policy l =
    l.many + length (filter allows (policies_left l.policies)) ≡ length (filter allows (policies_for l.held l.workload))
