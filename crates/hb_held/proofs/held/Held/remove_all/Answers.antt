use Rattle.std.proofs.Common.{◌≡◌, ◌+◌, ◌++◌, ◌∷◌, [], take, ap, sym, ◌∙◌, arith, inl, inr}
use Rattle.std.proofs.lemmas.Grind.{common_steps}
use Rattle.hb_held.specs.Held.{without}
use Rattle.hb_held.specs.Outcome.{after_removals, removed_name, removed_names}
use Rattle.hb_held.proofs.Folds.{one_more_removed, one_more_name, told_more, changes_more, on_err}
use Rattle.hb_held.proofs.held.Held.remove_all.Goals as goal

pub loop-name-preserved : goal.loop-name-preserved
loop-name-preserved c =
    let i = c.loop-name.name-index in
    let h = c.args.self.now in
    let kind = c.args.kind in
    let names = c.args.names.now in
    let name = c.name-item.result in
    let more : take (i + 1) names ≡ take i names ++ name ∷ [] = grind (arith, common_steps) in
    let held = c.loop-name.invariant.held in
    record {
      held = c.in_ok-remove_named.ensures.held ∙ ap (λ s. without s kind name) held ∙ sym (one_more_removed h kind (take i names) name)
          ∙ ap (after_removals h kind) (sym more);
      told = told_more _ _ _ _ _ _ c.loop-name.invariant.told c.in_ok-remove_named.ensures.told
          (changes_more kind _ _ _ (ap (removed_names h kind) more ∙ one_more_name h kind (take i names) name
          ∙ ap (λ s. removed_names h kind (take i names) ++ removed_name s kind name) (sym held)));
    }

pub returns-in_err-remove_named-clause-stays : goal.returns-in_err-remove_named-clause-stays
returns-in_err-remove_named-clause-stays c =
    let i = c.loop-name.name-index in
    let h = c.args.self.now in
    let kind = c.args.kind in
    let names = c.args.names.now in
    let name = c.name-item.result in
    let more : take (i + 1) names ≡ take i names ++ name ∷ [] = grind (arith, common_steps) in
    let held = c.loop-name.invariant.held in
    on_err c.from_residual.result (elim c.in_err-remove_named.ensures.stays [
      | inl same ↦ (i, same ∙ held)
      | inr gone ↦ (
        i + 1,
        gone ∙ ap (λ s. without s kind name) held ∙ sym (one_more_removed h kind (take i names) name)
            ∙ ap (after_removals h kind) (sym more),
      )
    ])
