use Rattle.std.proofs.Common.{◌≡◌, ◌+◌, ◌++◌, ◌∷◌, [], take, slice_index_or, ap, sym, ◌∙◌, arith}
use Rattle.std.proofs.lemmas.Grind.{common_steps}
use Rattle.hb_held.specs.Numbers.{with_byte, with_bytes}
use Rattle.hb_held.proofs.Asked.{with_bytes-append}
use Rattle.hb_held.proofs.numbers.with_bytes.Goals as goal

pub loop-byte-preserved : goal.loop-byte-preserved
loop-byte-preserved c =
    let i = c.loop-byte.byte-index in
    let bs = c.args.text.now in
    let b = slice_index_or bs i 0 in
    let more : take (i + 1) bs ≡ take i bs ++ b ∷ [] = grind (arith, common_steps) in
    c.with_byte-sum.ensures ∙ ap (λ n. with_byte n b) c.loop-byte.invariant
    ∙ sym (with_bytes-append c.args.number (take i bs) (b ∷ [])) ∙ ap (with_bytes c.args.number) (sym more)
