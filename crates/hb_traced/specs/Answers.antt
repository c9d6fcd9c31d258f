-- What is answered in the place of what a world that tells its trace may not answer.
use Rattle.std.specs.Prelude.{◌≡◌, ℕ, ◌==◌, Bool, true, false, if◌then◌else◌}
use Rattle.hb_world.specs.declared.world.Born.{Born}
use Rattle.hb_world.specs.declared.world.Born.TheVariants as births
use Rattle.hb_world.specs.declared.world.Finished.{Finished}
use Rattle.hb_world.specs.declared.world.Finished.TheVariants as finished
use Rattle.hb_world.specs.declared.world.Read.{Read}
use Rattle.hb_world.specs.declared.world.Read.TheVariants as reads
use Rattle.hb_world.specs.declared.world.Wrote.{Wrote}
use Rattle.hb_world.specs.declared.world.Wrote.TheVariants as wrote
use Rattle.hb_world.specs.declared.world.Looked.{Looked}
use Rattle.hb_world.specs.declared.world.Looked.TheVariants as looked

-- a link that lives has the answer as it is; one that doesn't balks, or is fine, want of memory aside
abbrev pub finish_of : Bool → Finished → Finished
finish_of true answer = answer
finish_of false finished.NoMemory = finished.NoMemory
finish_of false _ = finished.Balked

abbrev pub read_of : Bool → Read → Read
read_of true answer = answer
read_of false reads.NoMemory = reads.NoMemory
read_of false _ = reads.Balked

abbrev pub write_of : Bool → Wrote → Wrote
write_of true answer = answer
write_of false wrote.NoMemory = wrote.NoMemory
write_of false _ = wrote.Balked

abbrev pub look_of : Bool → Looked → Looked
look_of true answer = answer
look_of false looked.NoMemory = looked.NoMemory
look_of false _ = looked.Fine

-- the birth of the link that has the next number is as it is; one of another number failed
abbrev pub numbered : ℕ → Born → Born
numbered next (births.New link) = if link == next then births.New link else births.Failed
numbered next answer = answer

-- a link that is born has this number
abbrev pub HasNumber : ℕ → Born → Type 0
HasNumber next (births.New link) = link ≡ next
HasNumber next _ = Unit {0}
