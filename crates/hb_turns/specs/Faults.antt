-- What a run leaves of what is seen of its world beside the trace.
use Rattle.std.specs.Prelude.{◌≡◌, Bool}
use Rattle.hb_base.specs.Count.{Counts}
use Rattle.hb_world.specs.Seen.{Seen}

-- the lines stay that it follows, and how often a listen or a wait failed
pub record StaysWhole (old new : Seen) : Type 0 where
  pub follows : new.script ≡ old.script
  pub faults : new.faults ≡ old.faults

-- the lines stay that it follows, and a listen or a wait that failed is counted
pub record CountsWhole (old new : Seen) (failed : Bool) : Type 0 where
  pub follows : new.script ≡ old.script
  pub counts : Counts old.faults new.faults failed
