use Rattle.std.proofs.Common.{◌≡◌}
use Rattle.hb_gate.proofs.Mailed.{NoMailBelow}
use Rattle.hb_gate.proofs.Walks.{left_from}
use Rattle.hb_gate.proofs.gate.Gate.next_mail.Given as goal

-- in front of the stream no tunnel is to be told anything
abbrev pub invariant-loop-from : goal.invariant-loop-from
invariant-loop-from l = (l.self ≡ l.initial.self) × NoMailBelow l.from l.self.streams

abbrev pub decreases-loop-from : goal.decreases-loop-from
decreases-loop-from l = left_from l.from
