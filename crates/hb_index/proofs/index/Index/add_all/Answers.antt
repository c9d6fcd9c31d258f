use Rattle.std.proofs.Common.{◌≡◌, ◌+◌, ◌++◌, ◌∷◌, [], take, slice_index_or, ap, sym, ◌∙◌, arith}
use Rattle.std.proofs.lemmas.Grind.{common_steps}
use Rattle.hb_index.specs.Index.{with_name, with_all}
use Rattle.hb_index.proofs.Stands.{with_one_more}
use Rattle.hb_index.proofs.index.Index.add_all.Goals as goal

pub loop-number-preserved : goal.loop-number-preserved
loop-number-preserved c =
    let i = c.loop-number.number-index in
    let ns = c.args.numbers.now in
    let n = slice_index_or ns i 0 in
    let more : take (i + 1) ns ≡ take i ns ++ n ∷ [] = grind (arith, common_steps) in
    c.in_ok-add.ensures.ok ∙ ap (λ m. with_name m n c.args.name.now) c.loop-number.invariant
    ∙ sym (with_one_more c.args.self.now c.args.name.now (take i ns) n) ∙ ap (with_all c.args.self.now c.args.name.now) (sym more)
