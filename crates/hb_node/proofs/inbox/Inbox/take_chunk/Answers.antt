use Rattle.std.proofs.Common.{refl}
use Rattle.hb_node.specs.Inbox.{lacks, refuses, applies}
use Rattle.hb_node.proofs.inbox.Inbox.take_chunk.Goals as goal

pub loop-taken-preserved : goal.loop-taken-preserved
loop-taken-preserved g c = λ whole held box more.
    c.loop-taken.invariant whole held box
    (applies c.in-Applied.taken _ _ (rw c.in-Applied.is at c.in_ok-taken.ensures.told) (rw c.behind-left.ensures at more))

pub returns-in-Refused : goal.returns-in-Refused
returns-in-Refused g c = c.loop-taken.invariant _ _ _ (refuses (rw c.in-Refused.is at c.in_ok-taken.ensures.told) refl)

pub returns-in-Lacking : goal.returns-in-Lacking
returns-in-Lacking g c = c.loop-taken.invariant _ _ _ (lacks (rw c.in-Lacking.is at c.in_ok-taken.ensures.told) refl)
