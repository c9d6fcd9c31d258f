use Rattle.std.proofs.Common.{◌≡◌, ◌≤◌, ◌-◌, length, drop}
use Rattle.hb_outgoing.specs.Queue.{frames_of, AreWhole}
use Rattle.hb_outgoing.specs.Selected.{first_data}
use Rattle.hb_outgoing.proofs.queue.first_data.Given as goal

-- what is found from here on is what is found at all
abbrev pub invariant-loop-at : goal.invariant-loop-at
invariant-loop-at l =
    record {
      within : l.at ≤ length l.bytes;
      later : AreWhole (drop l.at l.bytes);
      found : first_data (frames_of (drop l.at l.bytes)) ≡ first_data (frames_of (drop l.from l.bytes));
    }

abbrev pub decreases-loop-at : goal.decreases-loop-at
decreases-loop-at l = length l.bytes - l.at
