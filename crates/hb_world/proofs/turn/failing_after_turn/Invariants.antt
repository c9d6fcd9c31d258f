use Rattle.std.proofs.Common.{◌≡◌, take}
use Rattle.std.specs.List.{fold}
use Rattle.hb_world.specs.Script.{failing_with}
use Rattle.hb_world.proofs.turn.failing_after_turn.Given as goal

abbrev pub invariant-loop-line : goal.invariant-loop-line
invariant-loop-line l = l.now ≡ fold failing_with l.initial.now (take l.line-index l.turn)
