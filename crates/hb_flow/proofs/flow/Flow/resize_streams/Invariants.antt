use Rattle.std.proofs.Common.{◌≡◌}
use Rattle.hb_flow.proofs.Sizes.{AreMoved, left_of}
use Rattle.hb_flow.proofs.flow.Flow.resize_streams.Given as goal

-- the streams in front of the next are resized, and all else is as it was
abbrev pub invariant-loop-next : goal.invariant-loop-next
invariant-loop-next l = record {
  sending : l.self.sending ≡ l.initial.self.sending;
  taking : l.self.taking ≡ l.initial.self.taking;
  initial : l.self.initial ≡ l.initial.self.initial;
  moved : AreMoved l.size l.unbegun_stream l.unbegun l.initial.self.streams l.self.streams l.next;
}

abbrev pub decreases-loop-next : goal.decreases-loop-next
decreases-loop-next l = left_of l.next
