use Rattle.std.proofs.Common.{◌≡◌, ◌≤◌}
use Rattle.hb_gate.specs.Streams.{ended_from, ChangedBelow}
use Rattle.hb_gate.proofs.Walks.{place_of, left_from}
use Rattle.hb_gate.proofs.gate.Gate.end_from.Given as goal

-- the tunnels in front of the stream have ended, the others are as they were
abbrev pub invariant-loop-from : goal.invariant-loop-from
invariant-loop-from l =
    ChangedBelow (ended_from l.low l.cause) (place_of l.from) l.initial.self.streams l.self.streams × (l.low ≤ place_of l.from)
    × (l.self ≡ record l.initial.self { streams = l.self.streams })

abbrev pub decreases-loop-from : goal.decreases-loop-from
decreases-loop-from l = left_from l.from
