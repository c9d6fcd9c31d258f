use Rattle.std.proofs.Common.{◌≡◌, ◌++◌}
use Rattle.hb_make.specs.Made.{tunnels}
use Rattle.hb_make.proofs.lines.add_tunnels.Given as goal

abbrev pub invariant-loop-i : goal.invariant-loop-i
invariant-loop-i l = l.lines ≡ l.initial.lines ++ tunnels l.i
