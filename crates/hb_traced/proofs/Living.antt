-- What is answered is of links that live, whatever the world in it answers.
use Rattle.std.proofs.Common.{◌≡◌, ◌<◌, ℕ, Bool, true, false, IsTrue, List, Some, refl}
use Rattle.hb_world.specs.Answers.{FinishesLiving, ReadsLiving, WritesLiving, LooksLiving, ReadsWithin, WritesWithin}
use Rattle.hb_world.specs.Answers.{finish_failed, read_failed, write_failed, look_failed}
use Rattle.hb_world.specs.Trace.{lives}
use Rattle.hb_world.specs.declared.entry.Entry.{Entry}
use Rattle.hb_world.specs.declared.world.Finished.{Finished}
use Rattle.hb_world.specs.declared.world.Finished.TheVariants as finished
use Rattle.hb_world.specs.declared.world.Read.{Read}
use Rattle.hb_world.specs.declared.world.Read.TheVariants as reads
use Rattle.hb_world.specs.declared.world.Wrote.{Wrote}
use Rattle.hb_world.specs.declared.world.Wrote.TheVariants as wrote
use Rattle.hb_world.specs.declared.world.Looked.{Looked}
use Rattle.hb_world.specs.declared.world.Looked.TheVariants as looked
use Rattle.hb_traced.specs.Answers.{finish_of, read_of, write_of, look_of}

pub finishes_living : (link : ℕ) (trace : List Entry) (b : Bool) (a : Finished) → lives link trace ≡ b → FinishesLiving link (Some trace) (finish_of b a)
finishes_living link trace true finished.Opened e = e
finishes_living link trace true finished.Balked e = tt
finishes_living link trace true finished.Failed e = e
finishes_living link trace true finished.NoMemory e = tt
finishes_living link trace false finished.Opened e = tt
finishes_living link trace false finished.Balked e = tt
finishes_living link trace false finished.Failed e = tt
finishes_living link trace false finished.NoMemory e = tt

pub finish_fails : (b : Bool) (a : Finished) → IsTrue (finish_failed (finish_of b a)) → b ≡ true
finish_fails true a e = refl
finish_fails false finished.Opened e = absurd (cc)
finish_fails false finished.Balked e = absurd (cc)
finish_fails false finished.Failed e = absurd (cc)
finish_fails false finished.NoMemory e = absurd (cc)

pub reads_living : (link : ℕ) (trace : List Entry) (b : Bool) (a : Read) → lives link trace ≡ b → ReadsLiving link (Some trace) (read_of b a)
reads_living link trace true (reads.Got n) e = e
reads_living link trace true reads.End e = e
reads_living link trace true reads.Balked e = tt
reads_living link trace true reads.Failed e = e
reads_living link trace true reads.NoMemory e = tt
reads_living link trace false (reads.Got n) e = tt
reads_living link trace false reads.End e = tt
reads_living link trace false reads.Balked e = tt
reads_living link trace false reads.Failed e = tt
reads_living link trace false reads.NoMemory e = tt

pub reads_within : (into : List ℕ) (b : Bool) (a : Read) → ReadsWithin into a → ReadsWithin into (read_of b a)
reads_within into true a w = w
reads_within into false (reads.Got n) w = tt
reads_within into false reads.End w = tt
reads_within into false reads.Balked w = tt
reads_within into false reads.Failed w = tt
reads_within into false reads.NoMemory w = tt

pub read_fails : (b : Bool) (a : Read) → IsTrue (read_failed (read_of b a)) → b ≡ true
read_fails true a e = refl
read_fails false (reads.Got n) e = absurd (cc)
read_fails false reads.End e = absurd (cc)
read_fails false reads.Balked e = absurd (cc)
read_fails false reads.Failed e = absurd (cc)
read_fails false reads.NoMemory e = absurd (cc)

pub writes_living : (link : ℕ) (trace : List Entry) (b : Bool) (a : Wrote) → lives link trace ≡ b → WritesLiving link (Some trace) (write_of b a)
writes_living link trace true (wrote.Took n) e = e
writes_living link trace true wrote.Balked e = tt
writes_living link trace true wrote.Failed e = e
writes_living link trace true wrote.NoMemory e = tt
writes_living link trace false (wrote.Took n) e = tt
writes_living link trace false wrote.Balked e = tt
writes_living link trace false wrote.Failed e = tt
writes_living link trace false wrote.NoMemory e = tt

pub writes_within : (from : List ℕ) (b : Bool) (a : Wrote) → WritesWithin from a → WritesWithin from (write_of b a)
writes_within from true a w = w
writes_within from false (wrote.Took n) w = tt
writes_within from false wrote.Balked w = tt
writes_within from false wrote.Failed w = tt
writes_within from false wrote.NoMemory w = tt

pub write_fails : (b : Bool) (a : Wrote) → IsTrue (write_failed (write_of b a)) → b ≡ true
write_fails true a e = refl
write_fails false (wrote.Took n) e = absurd (cc)
write_fails false wrote.Balked e = absurd (cc)
write_fails false wrote.Failed e = absurd (cc)
write_fails false wrote.NoMemory e = absurd (cc)

pub looks_living : (link : ℕ) (trace : List Entry) (b : Bool) (a : Looked) → lives link trace ≡ b → LooksLiving link (Some trace) (look_of b a)
looks_living link trace true looked.Fine e = tt
looks_living link trace true looked.Failed e = e
looks_living link trace true looked.NoMemory e = tt
looks_living link trace false looked.Fine e = tt
looks_living link trace false looked.Failed e = tt
looks_living link trace false looked.NoMemory e = tt

pub look_fails : (b : Bool) (a : Looked) → IsTrue (look_failed (look_of b a)) → b ≡ true
look_fails true a e = refl
look_fails false looked.Fine e = absurd (cc)
look_fails false looked.Failed e = absurd (cc)
look_fails false looked.NoMemory e = absurd (cc)
