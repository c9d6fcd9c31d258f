use Rattle.std.proofs.Common.{◌≡◌, take}
use Rattle.std.specs.List.{fold}
use Rattle.hb_base.specs.declared.door.Door.{Door}
use Rattle.hb_world.specs.DoorState.{door_at}
use Rattle.hb_world.specs.Script.{waiting_with}
use Rattle.hb_world.proofs.turn.turn_to_doors.Given as goal

abbrev pub invariant-loop-line : goal.invariant-loop-line
invariant-loop-line l = record {
  listening : (d : Door) → (door_at l.doors d).listening ≡ (door_at l.initial.doors d).listening;
  waiting : (d : Door) → (door_at l.doors d).waiting
      ≡ fold (waiting_with (door_at l.initial.doors d).listening d) (door_at l.initial.doors d).waiting (take l.line-index l.turn);
}
