use Rattle.std.proofs.Common.{◌≡◌, ◌-◌, length}
use Rattle.hb_outgoing.proofs.Walks.{Takes}
use Rattle.hb_outgoing.proofs.queue.take_data.Given as goal

abbrev pub invariant-loop-ahead : goal.invariant-loop-ahead
invariant-loop-ahead l =
    record {
      size : l.output.size ≡ l.initial.output.size;
      takes : Takes l.stream l.initial.output.items l.output.items l.from l.at l.ahead l.taken l.kept;
    }

abbrev pub decreases-loop-ahead : goal.decreases-loop-ahead
decreases-loop-ahead l = length l.output.items - l.at
