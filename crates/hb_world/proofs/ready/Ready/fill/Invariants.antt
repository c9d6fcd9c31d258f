use Rattle.std.proofs.Common.{◌≡◌, take}
use Rattle.hb_world.proofs.ready.Ready.fill.Given as goal

abbrev pub invariant-loop-item : goal.invariant-loop-item
invariant-loop-item l = l.self ≡ take l.item-index l.items
