use Rattle.std.specs.Prelude.{take}
use Rattle.hb_ready.specs.Registry.{kept}
use Rattle.hb_turns.specs.Shown.{Shown}
use Rattle.hb_turns.specs.Stands.{WatchedBy}
use Rattle.hb_turns.specs.Woken.{Wakes}
use Rattle.hb_turns.proofs.waits.wake.Given as goal

-- those named so far are woken
abbrev pub invariant-loop-item : goal.invariant-loop-item
invariant-loop-item l = record {
  wakes : Wakes l.fn.records l.records (take l.item-index l.items);
  watched : (s : Shown) → WatchedBy (kept l.fn.records.links) s → WatchedBy (kept l.records.links) s;
}
