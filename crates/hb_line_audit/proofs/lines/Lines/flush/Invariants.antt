use Rattle.std.proofs.Common.{◌≡◌, ◌⊎◌, false, length}
use Rattle.std.specs.Io.KnownBytes.{Keeps}
use Rattle.hb_base.specs.Count.{Rose}
use Rattle.hb_line_audit.specs.Lines.{handed}
use Rattle.hb_line_audit.proofs.lines.Lines.flush.Given as goal

-- nothing is lost, and once something was done the sink was asked
abbrev pub invariant-loop-self : goal.invariant-loop-self
invariant-loop-self g l = record {
  kept : Keeps (handed g.K.Polled.written l.fn.self) (handed g.K.Polled.written l.self);
  lost : l.self.lost ≡ l.fn.self.lost;
  well : l.self.failed ≡ false;
  faults : g.K.Polled.faults l.self.sink ≡ g.K.Polled.faults l.fn.self.sink;
  asks : (l.self ≡ l.fn.self) ⊎ Rose (g.K.Polled.asked l.fn.self.sink) (g.K.Polled.asked l.self.sink);
}

abbrev pub decreases-loop-self : goal.decreases-loop-self
decreases-loop-self g l = length l.self.waits
