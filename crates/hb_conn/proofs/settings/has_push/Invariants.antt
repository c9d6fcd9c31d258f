use Rattle.std.proofs.Common.{◌≡◌, length}
use Rattle.std.specs.List.{list_any}
use Rattle.hb_frames.specs.Refusals.{settings}
use Rattle.hb_conn.specs.Settings.{is_push}
use Rattle.hb_conn.proofs.settings.has_push.Given as goal

abbrev pub invariant-loop-left : goal.invariant-loop-left
invariant-loop-left l = list_any is_push (settings l.left) ≡ list_any is_push (settings l.fn.pairs)

abbrev pub decreases-loop-left : goal.decreases-loop-left
decreases-loop-left l = length l.left
