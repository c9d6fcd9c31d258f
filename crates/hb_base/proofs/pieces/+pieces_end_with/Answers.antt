use Rattle.std.proofs.Common.{nat_eq, Bool, ◌&&◌, sym, ap, ◌∙◌, arith}
use Rattle.std.specs.List.{ends_with}
use Rattle.hb_base.specs.Pieces.{joined}
use Rattle.hb_base.proofs.PieceLemmas.{ends_in_last, ends_in_pieces}
use Rattle.hb_base.proofs.pieces.+pieces_end_with.Goals as goal

pub returns-then-suffix-last : goal.returns-then-suffix-last
returns-then-suffix-last t c =
    c.ends_with.ensures.value
    ∙ sym (ends_in_last c.args.pieces.now c.in-Some.last.now c.in-Some.more.now c.args.suffix.now c.in-Some.ensures.cases.0
    (omega arith))

pub returns-then-eq : goal.returns-then-eq
returns-then-eq t c =
    let step = ends_in_pieces c.args.pieces.now c.in-Some.last.now c.in-Some.more.now c.args.suffix.now c.split_at.result.0.now
    c.split_at.result.1.now c.eq.result
    c.in-Some.ensures.cases.0 (omega arith) c.split_at.ensures.front c.split_at.ensures.back c.eq.ensures in
    c.pieces_end_with.ensures ∙ sym (step ∙ ap (λ (b : Bool). b && ends_with nat_eq (joined c.in-Some.more.now) c.split_at.result.0.now)
    c.if-eq.true)

pub returns-else-eq : goal.returns-else-eq
returns-else-eq t c =
    let step = ends_in_pieces c.args.pieces.now c.in-Some.last.now c.in-Some.more.now c.args.suffix.now c.split_at.result.0.now
    c.split_at.result.1.now c.eq.result
    c.in-Some.ensures.cases.0 (omega arith) c.split_at.ensures.front c.split_at.ensures.back c.eq.ensures in
    c.if-eq.false ∙ sym (step ∙ ap (λ (b : Bool). b && ends_with nat_eq (joined c.in-Some.more.now) c.split_at.result.0.now) c.if-eq.false)
