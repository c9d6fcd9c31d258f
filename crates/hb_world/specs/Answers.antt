-- What the answers of a world say.
use Rattle.std.specs.Prelude.{◌≡◌, ◌<◌, ◌≤◌, ◌+◌, ℕ, IsTrue, Bool, true, false, List, length, Option, Some, None}
use Rattle.hb_world.specs.declared.entry.Entry.{Entry}
use Rattle.hb_world.specs.declared.world.Listened.{Listened}
use Rattle.hb_world.specs.declared.world.Listened.TheVariants as listened
use Rattle.hb_world.specs.declared.world.Born.{Born}
use Rattle.hb_world.specs.declared.world.Born.TheVariants as born
use Rattle.hb_world.specs.declared.world.Finished.{Finished}
use Rattle.hb_world.specs.declared.world.Finished.TheVariants as finished
use Rattle.hb_world.specs.declared.world.Read.{Read}
use Rattle.hb_world.specs.declared.world.Read.TheVariants as reads
use Rattle.hb_world.specs.declared.world.Wrote.{Wrote}
use Rattle.hb_world.specs.declared.world.Wrote.TheVariants as wrote
use Rattle.hb_world.specs.declared.world.Looked.{Looked}
use Rattle.hb_world.specs.declared.world.Looked.TheVariants as looked
use Rattle.hb_world.specs.declared.world.Waited.{Waited}
use Rattle.hb_world.specs.declared.world.Waited.TheVariants as waited
use Rattle.hb_world.specs.declared.world.Glanced.{Glanced}
use Rattle.hb_world.specs.declared.world.Glanced.TheVariants as glanced
use Rattle.hb_world.specs.Trace.{births, lives}

-- whether the call failed; want of memory is no failure
abbrev pub listen_failed : Listened → Bool
listen_failed listened.Failed = true
listen_failed _ = false

abbrev pub birth_failed : Born → Bool
birth_failed born.Failed = true
birth_failed _ = false

abbrev pub finish_failed : Finished → Bool
finish_failed finished.Failed = true
finish_failed _ = false

abbrev pub read_failed : Read → Bool
read_failed reads.Failed = true
read_failed _ = false

abbrev pub write_failed : Wrote → Bool
write_failed wrote.Failed = true
write_failed _ = false

abbrev pub look_failed : Looked → Bool
look_failed looked.Failed = true
look_failed _ = false

abbrev pub wait_failed : Waited → Bool
wait_failed waited.Failed = true
wait_failed _ = false

abbrev pub glance_failed : Glanced → Bool
glance_failed glanced.Failed = true
glance_failed _ = false

-- a link that is born has the next number, counted from 1, where the trace is told
abbrev pub HasNextNumber : Option (List Entry) → Born → Type 0
HasNextNumber (Some trace) (born.New link) = link ≡ births trace + 1
HasNextNumber _ _ = Unit {0}

-- at least one byte came, and no more than the buffer holds
abbrev pub ReadsWithin : List ℕ → Read → Type 0
ReadsWithin into (reads.Got n) = (0 < n) × (n ≤ length into)
ReadsWithin into _ = Unit {0}

-- at least one byte went, and no more than the buffer holds
abbrev pub WritesWithin : List ℕ → Wrote → Type 0
WritesWithin from (wrote.Took n) = (0 < n) × (n ≤ length from)
WritesWithin from _ = Unit {0}

-- the link lives, where the trace is told
abbrev pub Lives : ℕ → Option (List Entry) → Type 0
Lives link None = Unit {0}
Lives link (Some trace) = IsTrue (lives link trace)

-- only a link that lives does anything but balk, or be fine, want of memory aside
abbrev pub FinishesLiving : ℕ → Option (List Entry) → Finished → Type 0
FinishesLiving link trace finished.Opened = Lives link trace
FinishesLiving link trace finished.Failed = Lives link trace
FinishesLiving link trace _ = Unit {0}

abbrev pub ReadsLiving : ℕ → Option (List Entry) → Read → Type 0
ReadsLiving link trace (reads.Got n) = Lives link trace
ReadsLiving link trace reads.End = Lives link trace
ReadsLiving link trace reads.Failed = Lives link trace
ReadsLiving link trace _ = Unit {0}

abbrev pub WritesLiving : ℕ → Option (List Entry) → Wrote → Type 0
WritesLiving link trace (wrote.Took n) = Lives link trace
WritesLiving link trace wrote.Failed = Lives link trace
WritesLiving link trace _ = Unit {0}

abbrev pub LooksLiving : ℕ → Option (List Entry) → Looked → Type 0
LooksLiving link trace looked.Failed = Lives link trace
LooksLiving link trace _ = Unit {0}
