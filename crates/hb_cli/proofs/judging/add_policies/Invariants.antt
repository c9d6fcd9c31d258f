use Rattle.std.proofs.Common.{◌≡◌, ◌++◌}
use Rattle.std.specs.List.{flat_map}
use Rattle.hb_held.specs.Policies.{policies_for, policies_left}
use Rattle.hb_cli.specs.Judge.{policy_line}
use Rattle.hb_cli.proofs.judging.add_policies.Given as goal

-- the lines so far are added, and with those of the policies to come they are all
abbrev pub invariant-loop-policy : goal.invariant-loop-policy
invariant-loop-policy l =
    l.text.items ++ flat_map (policy_line (record { peer = l.peer; target = l.target })) (policies_left l.policies)
    ≡ l.initial.text.items ++ flat_map (policy_line (record { peer = l.peer; target = l.target })) (policies_for l.held l.workload)
