use Rattle.std.proofs.Common.{◌≡◌, ◌+◌, ◌++◌, ◌∷◌, [], take, ap, sym, ◌∙◌, arith, inl, inr}
use Rattle.std.proofs.lemmas.Grind.{common_steps}
use Rattle.hb_held.specs.Outcome.{with_resource, after_resource, after_resources, applied_as, applied_names, refused_for, refusals}
use Rattle.hb_held.proofs.Folds.{one_more_taken, one_more_applied, one_more_refusal, told_more, changes_more, on_err}
use Rattle.hb_held.proofs.held.Held.take_all.Goals as goal

pub loop-resource-preserved : goal.loop-resource-preserved
loop-resource-preserved c =
    let i = c.loop-resource.resource-index in
    let h = c.args.self.now in
    let kind = c.args.kind in
    let rs = c.args.resources.now in
    let r = c.resource-item.result in
    let more : take (i + 1) rs ≡ take i rs ++ r ∷ [] = grind (arith, common_steps) in
    let held = c.loop-resource.invariant.held in
    record {
      held = c.in_ok-take.ensures.held ∙ ap (λ s. after_resource s kind r) held ∙ sym (one_more_taken h kind (take i rs) r)
          ∙ ap (after_resources h kind) (sym more);
      told = told_more _ _ _ _ _ _ c.loop-resource.invariant.told c.in_ok-take.ensures.told
          (changes_more kind _ _ _ (ap (applied_names h kind) more ∙ one_more_applied h kind (take i rs) r
          ∙ ap (λ s. applied_names h kind (take i rs) ++ applied_as r (with_resource s kind r)) (sym held)));
      refused = told_more _ _ _ _ _ _ c.loop-resource.invariant.refused c.in_ok-take.ensures.refused
          (ap (refusals h kind) more ∙ one_more_refusal h kind (take i rs) r
          ∙ ap (λ s. refusals h kind (take i rs) ++ refused_for r (with_resource s kind r)) (sym held));
    }

pub returns-in_err-take-clause-stays : goal.returns-in_err-take-clause-stays
returns-in_err-take-clause-stays c =
    let i = c.loop-resource.resource-index in
    let h = c.args.self.now in
    let kind = c.args.kind in
    let rs = c.args.resources.now in
    let r = c.resource-item.result in
    let more : take (i + 1) rs ≡ take i rs ++ r ∷ [] = grind (arith, common_steps) in
    let held = c.loop-resource.invariant.held in
    on_err c.from_residual.result (elim c.in_err-take.ensures.stays [
      | inl same ↦ (i, same ∙ held)
      | inr taken ↦ (
        i + 1,
        taken ∙ ap (λ s. after_resource s kind r) held ∙ sym (one_more_taken h kind (take i rs) r)
            ∙ ap (after_resources h kind) (sym more),
      )
    ])
