use Rattle.std.proofs.Common.{◌≡◌, Bool, length}
use Rattle.hb_frames.specs.Refusals.{settings}
use Rattle.hb_conn.specs.Settings.{AppliesAll}
use Rattle.hb_conn.specs.Sizes.{sized, AreKnown}
use Rattle.hb_conn.specs.declared.machine.Core.{Core}
use Rattle.hb_conn.proofs.machine.Core.apply_all.Given as goal

abbrev pub invariant-loop-left : goal.invariant-loop-left
invariant-loop-left l = record {
  out : l.self.out ≡ l.fn.self.out;
  known : AreKnown l.self l.sizes;
  later : (new : Core) (fits : Bool) → AppliesAll (sized l.self l.sizes.pending) (settings l.left) new fits
      → AppliesAll l.fn.self (settings l.fn.pairs) new fits;
}

abbrev pub decreases-loop-left : goal.decreases-loop-left
decreases-loop-left l = length l.left
