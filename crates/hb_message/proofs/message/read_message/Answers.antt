use Rattle.std.proofs.Common.{sym, ap, ◌∙◌, Err}
use Rattle.std.proofs.lemmas.Result.{err_from_is_err_and}
use Rattle.hb_wire.specs.Field.{Unread}
use Rattle.hb_wire.specs.Seen.{content}
use Rattle.hb_wire.specs.Message.{message_of, fold_message}
use Rattle.hb_wire.proofs.Messages.{next_is_shorter, fold-end, fold-fault}
use Rattle.hb_message.proofs.Steps.{goes_on, ends}
use Rattle.hb_message.proofs.message.read_message.Goals as goal

pub loop-field-smaller : goal.loop-field-smaller
loop-field-smaller g c = next_is_shorter c.loop-field.fields c.next_field.new.self (content c.in-Ok-Some.field)
    (sym (rw c.in-Ok-Some.field-0-is at c.in-Ok-Some.ensures.answer))

pub loop-field-preserved : goal.loop-field-preserved
loop-field-preserved g c =
    goes_on g.M.Message.merged g.M.Fault.MessageFault.wire c.loop-field.message c.merge.new.self c.loop-field.fields c.next_field.new.self
    (content c.in-Ok-Some.field) _
    (rw c.in-Ok-Some.field-0-is at c.in-Ok-Some.ensures.answer) c.in_ok-merge-in-Ok-Some.ensures c.loop-field.invariant

pub returns-in_err-merge-in-Ok-Some : goal.returns-in_err-merge-in-Ok-Some
returns-in_err-merge-in-Ok-Some g c =
    let p = err_from_is_err_and c.from_residual.result c.from_residual.ensures.1 in
    rw (p.1, p.2) (ends g.M.Message.merged g.M.Fault.MessageFault.wire c.loop-field.message c.loop-field.fields c.next_field.new.self
    (content c.in-Ok-Some.field) c.in_err-merge-in-Ok-Some.field-0.0 _
    (rw c.in-Ok-Some.field-0-is at c.in-Ok-Some.ensures.answer) c.in_err-merge-in-Ok-Some.ensures
    (c.loop-field.invariant
    ∙ ap (λ (u : Unread). fold_message g.M.Message.merged g.M.Fault.MessageFault.wire c.args.message.now (message_of u))
    c.within-fields.ensures))

pub returns-in-Ok-None : goal.returns-in-Ok-None
returns-in-Ok-None g c =
    sym (c.loop-field.invariant
    ∙ ap (λ (u : Unread). fold_message g.M.Message.merged g.M.Fault.MessageFault.wire c.args.message.now (message_of u))
    c.within-fields.ensures) ∙ fold-end g.M.Message.merged g.M.Fault.MessageFault.wire c.loop-field.message c.loop-field.fields
    (sym (rw c.in-Ok-None.field-0-is at c.in-Ok-None.ensures.answer))

pub returns-in-Err : goal.returns-in-Err
returns-in-Err g c =
    sym (c.loop-field.invariant
    ∙ ap (λ (u : Unread). fold_message g.M.Message.merged g.M.Fault.MessageFault.wire c.args.message.now (message_of u))
    c.within-fields.ensures)
    ∙ fold-fault g.M.Message.merged g.M.Fault.MessageFault.wire c.loop-field.message c.loop-field.fields c.in-Err.fault
    (sym c.in-Err.ensures.answer)
    ∙ ap Err (sym c.of_wire.ensures)
