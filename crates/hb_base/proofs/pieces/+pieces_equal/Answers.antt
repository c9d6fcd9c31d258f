use Rattle.std.proofs.Common.{Bool, ◌&&◌, sym, ap, ◌∙◌, arith}
use Rattle.std.specs.Str.{bytes_eq}
use Rattle.hb_base.specs.Pieces.{joined}
use Rattle.hb_base.proofs.PieceLemmas.{equals_in_pieces}
use Rattle.hb_base.proofs.pieces.+pieces_equal.Goals as goal

pub returns-then-eq : goal.returns-then-eq
returns-then-eq t c =
    let step = equals_in_pieces c.args.pieces.now c.in-Some.first.now c.in-Some.more.now c.args.text.now c.split_at.result.0.now
    c.split_at.result.1.now c.eq.result
    c.in-Some.ensures.cases.0 (omega arith) c.split_at.ensures.front c.split_at.ensures.back c.eq.ensures in
    c.pieces_equal.ensures ∙ sym (step ∙ ap (λ (b : Bool). b && bytes_eq (joined c.in-Some.more.now) c.split_at.result.1.now) c.if-eq.true)

pub returns-else-eq : goal.returns-else-eq
returns-else-eq t c =
    let step = equals_in_pieces c.args.pieces.now c.in-Some.first.now c.in-Some.more.now c.args.text.now c.split_at.result.0.now
    c.split_at.result.1.now c.eq.result
    c.in-Some.ensures.cases.0 (omega arith) c.split_at.ensures.front c.split_at.ensures.back c.eq.ensures in
    c.if-eq.false ∙ sym (step ∙ ap (λ (b : Bool). b && bytes_eq (joined c.in-Some.more.now) c.split_at.result.1.now) c.if-eq.false)
