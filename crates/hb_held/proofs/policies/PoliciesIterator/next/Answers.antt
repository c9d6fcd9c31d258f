use Rattle.std.proofs.Common.{◌<◌, Some, length, sym, ◌∙◌, subst, arith}
use Rattle.std.specs.Option.{option_copied}
use Rattle.hb_index.proofs.Behind.{shorter}
use Rattle.hb_held.proofs.Asked.{behind_for, is_next, not_for, none_for, asked_is_held}
use Rattle.hb_held.proofs.policies.PoliciesIterator.next.Goals as goal

pub returns-in-Some-policy_for-clause-steps : goal.returns-in-Some-policy_for-clause-steps
returns-in-Some-policy_for-clause-steps c =
    let s = c.loop-name.self in
    sym c.loop-name.invariant
    ∙ is_next s.workload.now s.policies.now.now (option_copied s.last) c.in-Some.name.now c.in-Some-policy_for.policy.now c.in-Some.ensures
    (sym c.in-Some-policy_for.ensures)

pub returns-in-Some-policy_for-clause-goes : goal.returns-in-Some-policy_for-clause-goes
returns-in-Some-policy_for-clause-goes c =
    let s = c.loop-name.self in
    let left = behind_for s.workload.now s.policies.now.now (Some c.in-Some.name.now) in
    record {
      on = λ _. (
        tt,
        tt,
        subst (λ ps. length left < length ps) (sym (returns-in-Some-policy_for-clause-steps c)) (omega arith),
      );
      keeps = tt;
      rests = λ _. tt;
    }

pub loop-name-smaller : goal.loop-name-smaller
loop-name-smaller c =
    let s = c.loop-name.self in
    shorter s.policies.now.now (option_copied s.last) c.in-Some.name.now
    (asked_is_held s.workload.now s.policies.now.now c.in-Some.name.now c.in-Some.ensures.0) c.in-Some.ensures.1

pub loop-name-preserved : goal.loop-name-preserved
loop-name-preserved c =
    let s = c.loop-name.self in
    sym (not_for s.workload.now s.policies.now.now (option_copied s.last) c.in-Some.name.now c.in-Some.ensures
    (sym c.in_default-policy_for.ensures))
    ∙ c.loop-name.invariant

pub returns-clause-steps : goal.returns-clause-steps
returns-clause-steps c =
    let s = c.loop-name.self in
    let none = none_for s.workload.now s.policies.now.now (option_copied s.last) c.in_default.ensures in
    (sym c.loop-name.invariant ∙ none, none)
