use Rattle.std.proofs.Common.{sym, ap, ◌∙◌}
use Rattle.std.proofs.lemmas.Result.{err_from_is_err_and}
use Rattle.hb_wire.specs.Field.{Unread}
use Rattle.hb_wire.proofs.Messages.{number_is_shorter}
use Rattle.hb_records.specs.Numbers.{packed_in}
use Rattle.hb_records.proofs.Runs.{packed_end, packed_more, refused, full, broken}
use Rattle.hb_records.proofs.numbers.take_packed.Goals as goal

pub loop-n-smaller : goal.loop-n-smaller
loop-n-smaller c = number_is_shorter c.loop-n.packed c.next_number.new.self c.in-Ok-Some.n
    (sym (rw c.in-Ok-Some.field-0-is at c.in-Ok-Some.ensures.answer))

pub loop-n-preserved : goal.loop-n-preserved
loop-n-preserved c =
    sym (packed_more c.args.field c.loop-n.numbers c.take_number.new.numbers c.loop-n.packed c.next_number.new.self c.in-Ok-Some.n
    (sym (rw c.in-Ok-Some.field-0-is at c.in-Ok-Some.ensures.answer)) c.in_ok-take_number-in-Ok-Some.ensures) ∙ c.loop-n.invariant

pub returns-in_err-take_number-in-Ok-Some : goal.returns-in_err-take_number-in-Ok-Some
returns-in_err-take_number-in-Ok-Some c =
    let p = err_from_is_err_and c.from_residual.result c.from_residual.ensures.1 in
    rw (p.1, p.2) (refused c.args.field c.loop-n.numbers c.loop-n.packed c.next_number.new.self c.in-Ok-Some.n
    c.in_err-take_number-in-Ok-Some.field-0.0 _ (rw c.in-Ok-Some.field-0-is at c.in-Ok-Some.ensures.answer)
    c.in_err-take_number-in-Ok-Some.ensures
    (c.loop-n.invariant ∙ ap (λ (u : Unread). packed_in c.args.field c.args.numbers.now u) c.within-packed.ensures))

pub returns-in-Ok-None : goal.returns-in-Ok-None
returns-in-Ok-None c =
    sym (c.loop-n.invariant ∙ ap (λ (u : Unread). packed_in c.args.field c.args.numbers.now u) c.within-packed.ensures)
    ∙ packed_end c.args.field c.loop-n.numbers c.loop-n.packed
    (sym (rw c.in-Ok-None.field-0-is at c.in-Ok-None.ensures.answer))

pub returns-in_err-check_room-in-Err : goal.returns-in_err-check_room-in-Err
returns-in_err-check_room-in-Err c =
    let p = err_from_is_err_and c.from_residual-in_err-check_room-in-Err.result c.from_residual-in_err-check_room-in-Err.ensures.1 in
    rw (p.1, p.2) (full c.args.field c.loop-n.numbers c.loop-n.packed c.in-Err.fault c.in_err-check_room-in-Err.field-0.0 _
    c.in-Err.ensures.answer c.in_err-check_room-in-Err.ensures
    (c.loop-n.invariant ∙ ap (λ (u : Unread). packed_in c.args.field c.args.numbers.now u) c.within-packed.ensures))

pub returns-in-Err : goal.returns-in-Err
returns-in-Err c =
    sym (c.loop-n.invariant ∙ ap (λ (u : Unread). packed_in c.args.field c.args.numbers.now u) c.within-packed.ensures)
    ∙ broken c.args.field c.loop-n.numbers c.loop-n.packed c.in-Err.fault c.in-Err.ensures.answer c.in_ok-check_room-in-Err.ensures
