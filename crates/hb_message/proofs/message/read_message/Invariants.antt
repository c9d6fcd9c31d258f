use Rattle.std.proofs.Common.{◌≡◌, length}
use Rattle.hb_wire.specs.Message.{message_of, fold_message}
use Rattle.hb_message.proofs.message.read_message.Given as goal

-- what the fields that are left make of the message is what all of them make
abbrev pub invariant-loop-field : goal.invariant-loop-field
invariant-loop-field g l = fold_message g.M.Message.merged g.M.Fault.MessageFault.wire l.message (message_of l.fields)
    ≡ fold_message g.M.Message.merged g.M.Fault.MessageFault.wire l.initial.message (message_of l.initial.fields)

abbrev pub decreases-loop-field : goal.decreases-loop-field
decreases-loop-field g l = length l.fields.left
