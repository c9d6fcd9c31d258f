use Rattle.std.proofs.Common.{◌≡◌, ◌≤◌, ◌-◌, length, drop}
use Rattle.std.specs.List.{list_any}
use Rattle.hb_outgoing.specs.Queue.{frames_of, AreWhole}
use Rattle.hb_outgoing.specs.Selected.{frame_ends}
use Rattle.hb_outgoing.proofs.queue.any_ends.Given as goal

-- what is found from here on is what is found at all
abbrev pub invariant-loop-at : goal.invariant-loop-at
invariant-loop-at l =
    record {
      within : l.at ≤ length l.bytes;
      later : AreWhole (drop l.at l.bytes);
      found : list_any (frame_ends l.stream) (frames_of (drop l.at l.bytes))
          ≡ list_any (frame_ends l.stream) (frames_of (drop l.from l.bytes));
    }

abbrev pub decreases-loop-at : goal.decreases-loop-at
decreases-loop-at l = length l.bytes - l.at
