use Rattle.std.proofs.Common.{◌≡◌, length}
use Rattle.hb_owed.specs.Debts.{dues}
use Rattle.hb_owed.specs.Paid.{paid}
use Rattle.hb_owed.proofs.Walks.{payment}
use Rattle.hb_owed.proofs.owed.Owed.pay.Given as goal

abbrev pub invariant-loop-stream : goal.invariant-loop-stream
invariant-loop-stream l = paid (payment l.self l.out l.encoder) ≡ paid (payment l.initial.self l.initial.out l.initial.encoder)

abbrev pub decreases-loop-stream : goal.decreases-loop-stream
decreases-loop-stream l = length (dues l.self)
