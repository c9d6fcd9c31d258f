use Rattle.std.proofs.Common.{◌≡◌, length}
use Rattle.std.specs.List.{list_any}
use Rattle.hb_frames.specs.Refusals.{is_refused_setting, settings}
use Rattle.hb_frames.proofs.refusal.has_refused_setting.Given as goal

abbrev pub invariant-loop-left : goal.invariant-loop-left
invariant-loop-left l = list_any is_refused_setting (settings l.left) ≡ list_any is_refused_setting (settings l.fn.payload)

abbrev pub decreases-loop-left : goal.decreases-loop-left
decreases-loop-left l = length l.left
