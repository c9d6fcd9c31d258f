use Rattle.std.proofs.Common.{refl}
use Rattle.hb_node.specs.Inbox.{no_response, no_message}
use Rattle.hb_node.proofs.inbox.Inbox.take_front.Goals as goal

pub returns-in-Ok-Some-clause-told : goal.returns-in-Ok-Some-clause-told
returns-in-Ok-Some-clause-told g c =
    let t = rw c.if-branch.false at (c.in_ok-take_message-in-Ok-Some.ensures {u = tt}) in
    let told = rw c.in-Ok-Some.field-0-is at c.in-Ok-Some.ensures.told in
    (no_response _ _ t.0 told (rw c.as_slice.ensures at t.1), t.2)

pub returns-in-Err-Fault-clause-told : goal.returns-in-Err-Fault-clause-told
returns-in-Err-Fault-clause-told g c =
    (no_message c.in-Err-Fault.field-0-0 (rw c.in-Err-Fault.field-0-is at c.in-Err-Fault.ensures.told), refl)
