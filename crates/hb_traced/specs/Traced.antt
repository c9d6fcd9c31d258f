-- What is seen of a traced world.
use Rattle.std.specs.Prelude.{List}
use Rattle.hb_world.specs.declared.entry.Entry.{Entry}
use Rattle.hb_world.specs.Seen.{Seen}
use Rattle.hb_traced.specs.declared.traced.Traced.{Traced}
use Rattle.hb_traced.specs.Known.{faults_at}

-- what its calls answered
abbrev pub trace_of : {W : Type 0} → Traced W → List Entry
trace_of w = w.known.past.entries

-- it follows the lines of the world in it, and counts itself what failed
abbrev pub seen_of : {W : Type 0} → (W → Seen) → Traced W → Seen
seen_of seen w = record {
  script = (seen w.world).script;
  faults = w.known.faults;
  birth_faults = w.known.birth_faults;
  link_faults = faults_at w.known.links;
}
