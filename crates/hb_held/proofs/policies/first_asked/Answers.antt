use Rattle.std.proofs.Common.{◌≡◌, ◌+◌, ◌++◌, ◌∷◌, [], take, ap, sym, ◌∙◌, subst, arith}
use Rattle.std.proofs.lemmas.Grind.{common_steps}
use Rattle.std.specs.Option.{option_copied}
use Rattle.hb_index.specs.Named.{IsFirstBehind}
use Rattle.hb_held.specs.Asked.{has_key}
use Rattle.hb_held.specs.Numbers.{text_number}
use Rattle.hb_held.proofs.Asked.{one_key, one_more}
use Rattle.hb_held.proofs.policies.first_asked.Goals as goal

pub loop-key-init : goal.loop-key-init
loop-key-init c =
    let m = c.args.policies.now.now in
    let other = option_copied c.args.name in
    one_more m other ([] ∷ []) c.args.workload.now.namespace c.text_number-namespace.result
    (option_copied c.first_behind-everywhere.result) (option_copied c.first_behind.result) (option_copied c.lesser-first.result)
    (c.text_number-namespace.ensures ∙ ap text_number c.as_slice.ensures.value)
    (one_key m other [] c.text_number.result (option_copied c.first_behind-everywhere.result) c.text_number.ensures
    c.first_behind-everywhere.ensures)
    c.first_behind.ensures c.lesser-first.ensures

pub loop-key-preserved : goal.loop-key-preserved
loop-key-preserved c =
    let m = c.args.policies.now.now in
    let other = option_copied c.args.name in
    let i = c.loop-key.key-index in
    let items = c.as_slice-key-items.result.now in
    let keys = c.args.workload.now.authorization_policies in
    let namespace = c.args.workload.now.namespace in
    let key = c.key-item.result in
    let one : take (i + 1) items ≡ take i items ++ key ∷ [] = grind (arith, common_steps) in
    let more : take (i + 1) keys ≡ take i keys ++ key ∷ [] =
    ap (take (i + 1)) (sym c.as_slice-key-items.ensures) ∙ one ∙ ap (λ l. take i l ++ key ∷ []) c.as_slice-key-items.ensures in
    subst (λ l. IsFirstBehind (has_key m ([] ∷ namespace ∷ l)) other (option_copied c.lesser-first-in-loop-key.result)) (sym more)
    (one_more m other ([] ∷ namespace ∷ take i keys) key c.text_number-number.result
    (option_copied c.loop-key.first) (option_copied c.first_behind-in-loop-key.result) (option_copied c.lesser-first-in-loop-key.result)
    (c.text_number-number.ensures ∙ ap text_number c.as_slice-in-loop-key.ensures.value)
    c.loop-key.invariant c.first_behind-in-loop-key.ensures c.lesser-first-in-loop-key.ensures)
