use Rattle.std.proofs.Common.{rules, ◌≡◌, ◌+◌, length, List, ap, ◌∙◌}
use Rattle.std.specs.Prelude.{filter}
use Rattle.hb_held.specs.Policies.{policies_left}
use Rattle.hb_records.specs.declared.authorization.Authorization.{Authorization}
use Rattle.hb_reason.specs.Denial.{allows}
use Rattle.hb_reason.proofs.Denying.{few_allow, one_allows}
use Rattle.hb_reason.proofs.denial.allowing.Goals as goal

pub overflow_add-many : goal.overflow_add-many
overflow_add-many c =
    let here : length (filter allows (policies_left c.loop-policy.policies)) ≡ length (filter allows (policies_left c.next.new.self)) + 1 =
    ap (λ (l : List Authorization). length (filter allows l)) c.in-Some.ensures.steps
    ∙ one_allows c.in-Some.policy.now (policies_left c.next.new.self) (search rules) in
    let all = c.loop-policy.invariant in
    let few = few_allow c.args.held.now c.args.workload.now in
    let held = c.count-all.ensures in
    search rules
