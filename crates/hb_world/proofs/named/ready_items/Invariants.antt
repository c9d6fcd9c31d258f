use Rattle.std.proofs.Common.{◌≡◌, take}
use Rattle.hb_world.specs.Script.{ready_in}
use Rattle.hb_world.proofs.named.ready_items.Given as goal

abbrev pub invariant-loop-line : goal.invariant-loop-line
invariant-loop-line l = l.named ≡ ready_in (take l.line-index l.lines) l.trace
