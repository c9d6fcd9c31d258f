-- What a frame makes of a connection, and what is told.
use Rattle.std.specs.Prelude.{◌≡◌, Bool, true, false, Result, Ok, Err}
use Rattle.hb_conn.specs.declared.machine.Core.{Core}
use Rattle.hb_conn.specs.declared.found.Found.{Found}
use Rattle.hb_conn.specs.declared.found.Found.TheVariants.{Silent}

pub record Outcome : Type 0 where
  pub core : Core
  pub found : Found

abbrev pub outcome : Core → Found → Outcome
outcome c found = record { core = c; found = found }

-- the connection is what the outcome says from now on, and so much is told
abbrev pub Gives : Outcome → Core → Found → Type 0
Gives o new found = (new ≡ o.core) × (found ≡ o.found)

-- likewise, where memory isn't wanting
abbrev pub Does : {E : Type 0} → Outcome → Core → Result Found E → Type 0
Does o new (Ok found) = Gives o new found
Does o new (Err _) = Unit {0}

-- nothing is told
abbrev pub is_silent : Found → Bool
is_silent Silent = true
is_silent _ = false
