use Rattle.hb_flow.proofs.Limits.{IsLimitUpTo}
use Rattle.hb_flow.proofs.Sizes.{left_of}
use Rattle.hb_flow.proofs.flow.Flow.size_limit.Given as goal

-- the limit of the streams in front of the next
abbrev pub invariant-loop-next : goal.invariant-loop-next
invariant-loop-next l = IsLimitUpTo l.self l.unbegun_stream l.unbegun l.next l.limit

abbrev pub decreases-loop-next : goal.decreases-loop-next
decreases-loop-next l = left_of l.next
