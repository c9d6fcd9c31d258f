-- What the world of a script keeps.
use Rattle.std.specs.Prelude.{◌≡◌, ◌≤◌, ◌^◌, ◌-◌, ℕ, min, Bool, true, false, not, Some, List, length, drop, count_by, nat_eq, if◌then◌else◌}
use Rattle.hb_base.specs.Count.{one_more}
use Rattle.hb_world.specs.declared.world.Read.{Read}
use Rattle.hb_world.specs.declared.world.Read.TheVariants as reads
use Rattle.hb_world.specs.declared.world.Wrote.{Wrote}
use Rattle.hb_world.specs.declared.world.Wrote.TheVariants as wrote
use Rattle.std.specs.List.{list_any}
use Rattle.hb_base.specs.declared.door.Door.{Door}
use Rattle.hb_world.specs.declared.doors.Doors.{Doors}
use Rattle.hb_world.specs.declared.doors.ScriptDoor.{ScriptDoor}
use Rattle.hb_world.specs.declared.entry.Entry.{Entry}
use Rattle.hb_world.specs.declared.entry.Entry.TheVariants.{Balked, Broke, Wait}
use Rattle.hb_world.specs.declared.entry.Way.TheVariants.{Listen}
use Rattle.hb_world.specs.declared.entry.Woken.TheVariants.{Failed, GlanceFailed}
use Rattle.hb_world.specs.declared.entry.ReadyItem.{ReadyItem}
use Rattle.hb_world.specs.declared.line.Line.{Line}
use Rattle.hb_world.specs.declared.turn.Ending.{Ending}
use Rattle.hb_world.specs.declared.turn.Ending.TheVariants as ending
use Rattle.hb_world.specs.declared.links.Links.{Links}
use Rattle.hb_world.specs.DoorState.{door_at}
use Rattle.hb_world.specs.LinkStates.{state_at, is_named}
use Rattle.hb_world.specs.Script.{Standing, is_of, pieces_on}
use Rattle.hb_world.specs.Seen.{Seen}
use Rattle.hb_world.specs.Trace.{listens}

-- a script's world: its lines, its trace, and how often an accept or a dial failed
pub record ScriptState : Type 0 where
  pub lines : List Line
  pub trace : List Entry
  pub birth_faults : ℕ

-- this entry is a fault of this link
abbrev pub is_broke_of : ℕ → Entry → Bool
is_broke_of link (Broke l) = nat_eq l link
is_broke_of link _ = false

-- this entry is a listen or a wait that failed
abbrev pub is_fault : Entry → Bool
is_fault (Balked (Listen door at listening)) = not listening
is_fault (Wait ready Failed) = true
is_fault (Wait ready GlanceFailed) = true
is_fault _ = false

-- counts in 64 bits
abbrev pub link_faults_in : List Entry → ℕ → ℕ
link_faults_in trace link = min (count_by (is_broke_of link) trace) (2 ^ 64 - 1)

abbrev pub faults_in : List Entry → ℕ
faults_in trace = min (count_by is_fault trace) (2 ^ 64 - 1)

-- what is seen of it beside its trace
abbrev pub seen_of : ScriptState → Seen
seen_of w = record {
  script = Some w.lines;
  faults = faults_in w.trace;
  birth_faults = w.birth_faults;
  link_faults = link_faults_in w.trace;
}

-- a count, one more where the call failed
abbrev pub counted : ℕ → Bool → ℕ
counted count failed = if failed then one_more count else count

-- an answer of a read that gives no bytes
abbrev pub GivesNothing : Read → Type 0
GivesNothing (reads.Got n) = ⊥
GivesNothing _ = Unit {0}

-- an answer of a write that takes no bytes
abbrev pub TakesNothing : Wrote → Type 0
TakesNothing (wrote.Took n) = ⊥
TakesNothing _ = Unit {0}

-- of so many items, how many a wait that ends so passes: those that it tells, and with Stop all
abbrev pub passed_by : Ending → ℕ → ℕ
passed_by ending.Stop items = items
passed_by _ items = min items 1024

-- what is kept stands for what the script has come to
pub record Keeps (s : Standing) (lines : List Line) (next : ℕ) (links : Links) (doors : Doors ScriptDoor) (failing : ℕ)
    (rest : List ReadyItem) : Type 0 where
  pub coming : s.coming ≡ drop next lines
  pub bound : next ≤ length lines
  pub said : (l : ℕ) → state_at links l ≡ record { said = s.links l; coming = pieces_on l s.coming }
  pub named : (l : ℕ) → list_any (is_of l) s.coming ≡ true → is_named links l ≡ true
  pub listening : (d : Door) → (door_at doors d).listening ≡ listens d s.trace
  pub waiting : (d : Door) → (door_at doors d).waiting ≡ s.waiting d
  pub fails : failing ≡ s.failing
  pub left : rest ≡ s.rest
