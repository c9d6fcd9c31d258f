use Rattle.std.proofs.Common.{◌<◌, ◌-◌, ◌++◌, ◌∙◌, refl, subst, List, ℕ, arith}
use Rattle.std.proofs.lemmas.Result.{IfOk-weaker, on_err_weaker}
use Rattle.hb_hpack.specs.Huffman.{bits}
use Rattle.hb_hpack.specs.Fronts.{IsFrontOf}
use Rattle.hb_hpack.proofs.Bits.{bits_next}
use Rattle.hb_hpack.proofs.huffman.+put_bits.Goals as goal

pub returns-then-left-eq0-clause-written : goal.returns-then-left-eq0-clause-written
unfolding bits
returns-then-left-eq0-clause-written t c rest = rw c.if-left-eq0.true refl

pub returns-clause-written : goal.returns-clause-written
returns-clause-written t c =
    let some : 0 < c.args.left = omega (arith, c.if-left-eq0.false) in
    IfOk-weaker c.put_bits.result _ _ (λ next h rest.
    h rest ∙ c.in_ok-next.ensures.written (bits (c.args.left - 1) c.args.word ++ rest)
    ∙ rw (bits_next c.args.left c.args.word some) refl) c.put_bits.ensures.written

pub returns-clause-err : goal.returns-clause-err
returns-clause-err t c =
    let some : 0 < c.args.left = omega (arith, c.if-left-eq0.false) in
    on_err_weaker c.put_bits.result (λ h rest.
    subst (λ (xs : List ℕ). IsFrontOf c.put_bits.new.out.items xs)
    (c.in_ok-next.ensures.written (bits (c.args.left - 1) c.args.word ++ rest) ∙ rw (bits_next c.args.left c.args.word some) refl)
    (h rest)) c.put_bits.ensures.err
