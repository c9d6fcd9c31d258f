use Rattle.hb_history.proofs.Steady.{never_refused}
use Rattle.hb_node.proofs.link.connection.Goals as goal

pub open-requires-clause-headers : goal.open-requires-clause-headers
open-requires-clause-headers c = c.in_ok-headers.ensures.small

pub unreachable-requires : goal.unreachable-requires
unreachable-requires c = never_refused _ _ c.in_ok-conn.ensures (rw c.in-Err-Fault.field-0-is at c.in-Err-Fault.ensures.told).0
