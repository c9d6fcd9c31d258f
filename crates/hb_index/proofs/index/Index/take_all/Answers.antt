use Rattle.std.proofs.Common.{◌≡◌, ◌+◌, ◌++◌, ◌∷◌, [], take, cond, slice_index_or, ap, sym, ◌∙◌, arith}
use Rattle.std.proofs.lemmas.Grind.{common_steps}
use Rattle.hb_index.specs.Index.{is_among, without_name, without_all}
use Rattle.hb_index.proofs.Stands.{without_one_more}
use Rattle.hb_index.proofs.index.Index.take_all.Goals as goal
use Rattle.hb_index.proofs.index.Index.take_all.Goals.{then-not-is_among, else-not-is_among}

pub loop-number-preserved : goal.loop-number-preserved
loop-number-preserved c =
    let i = c.loop-number.number-index in
    let ns = c.args.numbers.now in
    let n = slice_index_or ns i 0 in
    let name = c.args.name.now in
    let kept = c.args.kept.now in
    let more : take (i + 1) ns ≡ take i ns ++ n ∷ [] = grind (arith, common_steps) in
    let so_far = without_all c.args.self.now name (take i ns) kept in
    let step : c.if-not-is_among.self ≡ cond (is_among kept n) c.loop-number.self (without_name c.loop-number.self n name) =
    elim c.if-not-is_among.branch [
      | then-not-is_among w ↦ w.self-is ∙ w.take.ensures
          ∙ sym (ap (λ b. cond b c.loop-number.self (without_name c.loop-number.self n name)) (sym w.if-not-is_among.ensures))
      | else-not-is_among w ↦ w.self-is
          ∙ sym (ap (λ b. cond b c.loop-number.self (without_name c.loop-number.self n name)) (sym w.if-not-is_among.ensures))
    ] in
    step ∙ ap (λ m. cond (is_among kept n) m (without_name m n name)) c.loop-number.invariant
    ∙ sym (without_one_more c.args.self.now name (take i ns) kept n) ∙ ap (λ ks. without_all c.args.self.now name ks kept) (sym more)
