-- The input that ends a run.
use Rattle.std.specs.Prelude.{⊤, ◌≡◌, Bool, true, false, Option, None, Some}
use Rattle.hb_mio.specs.declared.stop.Input.{Input}
use Rattle.hb_mio.specs.declared.stop.Input.TheVariants.{Ignored, Watched, Ended}
use Rattle.hb_mio.specs.declared.watch.Watch.{Watch}
use Rattle.hb_world.specs.declared.world.Waited.{Waited}
use Rattle.hb_world.specs.declared.world.Waited.TheVariants.{Woke, Tick, Stop}

-- what a wait answers that didn't fail: Stop once an input that is watched ended or had a byte, and never where none is
abbrev pub waited_of : Input → Bool → Waited
waited_of Ended due = Stop
waited_of _ true = Tick
waited_of _ false = Woke

-- the same of a world that asked the system, or didn't
abbrev pub waited_by : Option Watch → Bool → Waited
waited_by None due = waited_of Ignored due
waited_by (Some watch) due = waited_of watch.input due

-- no input is watched
abbrev pub IgnoresInput : Option Watch → Type 0
IgnoresInput None = ⊤
IgnoresInput (Some watch) = watch.input ≡ Ignored
