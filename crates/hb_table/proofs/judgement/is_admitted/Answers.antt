use Rattle.std.proofs.Common.{[], ◌∷◌, ◌++◌, ap, sym, ◌∙◌, append_assoc}
use Rattle.hb_held.specs.Policies.{policies_left}
use Rattle.hb_table.proofs.judgement.is_admitted.Goals as goal

pub loop-policy-init : goal.loop-policy-init
loop-policy-init c = ([], c.new-tally.ensures _, c.policies_for-policies.ensures)

pub loop-policy-preserved : goal.loop-policy-preserved
loop-policy-preserved c =
    let i = c.loop-policy.invariant in
    let p = c.in-Some.policy.now in (
      i.0 ++ p ∷ [],
      c.count.ensures i.0 i.1,
      append_assoc i.0 (p ∷ []) (policies_left c.next.new.self) ∙ ap (λ l. i.0 ++ l) (sym c.in-Some.ensures.steps) ∙ i.2,
    )
