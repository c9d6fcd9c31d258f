use Rattle.std.proofs.Common.{◌≡◌, List, ◌++◌}
use Rattle.hb_records.specs.declared.authorization.Authorization.{Authorization}
use Rattle.hb_held.specs.Policies.{policies_for, policies_left}
use Rattle.hb_policy.specs.Tally.{StandsFor}
use Rattle.hb_table.proofs.judgement.is_admitted.Given as goal

-- the tally stands for the policies that were given, and the rest of the workload's are to come
abbrev pub invariant-loop-policy : goal.invariant-loop-policy
invariant-loop-policy l = (given : List Authorization) × StandsFor l.tally (record { peer = l.peer; target = l.target }) given
    × (given ++ policies_left l.policies ≡ policies_for l.held l.workload)
