-- The entries that a call adds to the trace: a function of the call and its answer.
use Rattle.std.specs.Prelude.{ℕ, true, false, not, ◌&&◌, if◌then◌else◌, List, [], ◌∷◌, ◌++◌, take, Option, Some, None}
use Rattle.hb_base.specs.declared.cause.Cause.{Cause}
use Rattle.hb_base.specs.declared.door.Door.{Door}
use Rattle.hb_base.specs.declared.door.Why.{Why}
use Rattle.hb_base.specs.declared.target.Target.{Target}
use Rattle.hb_world.specs.declared.entry.Entry.{Entry}
use Rattle.hb_world.specs.declared.entry.Entry.TheVariants as e
use Rattle.hb_world.specs.declared.entry.Way.TheVariants as way
use Rattle.hb_world.specs.declared.entry.ReadyItem.{ReadyItem}
use Rattle.hb_world.specs.declared.entry.Woken.TheVariants as woken
use Rattle.hb_world.specs.declared.world.Listened.{Listened}
use Rattle.hb_world.specs.declared.world.Listened.TheVariants as listened
use Rattle.hb_world.specs.declared.world.Born.{Born}
use Rattle.hb_world.specs.declared.world.Born.TheVariants as born
use Rattle.hb_world.specs.declared.world.Finished.{Finished}
use Rattle.hb_world.specs.declared.world.Finished.TheVariants as finished
use Rattle.hb_world.specs.declared.world.Read.{Read}
use Rattle.hb_world.specs.declared.world.Read.TheVariants as reads
use Rattle.hb_world.specs.declared.world.Wrote.{Wrote}
use Rattle.hb_world.specs.declared.world.Wrote.TheVariants as wrote
use Rattle.hb_world.specs.declared.world.Looked.{Looked}
use Rattle.hb_world.specs.declared.world.Looked.TheVariants as looked
use Rattle.hb_world.specs.declared.world.Waited.{Waited}
use Rattle.hb_world.specs.declared.world.Waited.TheVariants as waited
use Rattle.hb_world.specs.declared.world.Glanced.{Glanced}
use Rattle.hb_world.specs.declared.world.Glanced.TheVariants as glanced
use Rattle.hb_world.specs.Trace.{lives, was_shut}

-- the trace with these entries at its end, where it is told
abbrev pub with_entries : List Entry → Option (List Entry) → Option (List Entry)
with_entries entries None = None
with_entries entries (Some trace) = Some (trace ++ entries)

-- a listen moves nothing, so its entry is a Balked one; it tells whether the door is listening
abbrev pub listen_entries : Door → Target → Listened → List Entry
listen_entries door at listened.Listening = e.Balked (way.Listen door at true) ∷ []
listen_entries door at listened.Failed = e.Balked (way.Listen door at false) ∷ []
listen_entries door at listened.NoMemory = []

-- an accept that failed moves nothing, like one that balked
abbrev pub accept_entries : Door → Born → List Entry
accept_entries door (born.New link) = e.Accepted link door ∷ []
accept_entries door born.Balked = e.Balked (way.Accept door) ∷ []
accept_entries door born.Failed = e.Balked (way.Accept door) ∷ []
accept_entries door born.NoMemory = []

-- a dial never balks
abbrev pub dial_entries : Target → Why → Born → List Entry
dial_entries to why (born.New link) = e.Dialled link to why ∷ []
dial_entries to why born.Balked = []
dial_entries to why born.Failed = e.DialFailed to why ∷ []
dial_entries to why born.NoMemory = []

abbrev pub finish_entries : ℕ → Finished → List Entry
finish_entries link finished.Opened = e.Opened link ∷ []
finish_entries link finished.Balked = e.Balked (way.Finish link) ∷ []
finish_entries link finished.Failed = e.Broke link ∷ []
finish_entries link finished.NoMemory = []

-- the bytes that came stand at the buffer's front
abbrev pub read_entries : ℕ → List ℕ → Read → List Entry
read_entries link into (reads.Got n) = e.Came link (take n into) ∷ []
read_entries link into reads.End = e.Ended link ∷ []
read_entries link into reads.Balked = e.Balked (way.Read link) ∷ []
read_entries link into reads.Failed = e.Broke link ∷ []
read_entries link into reads.NoMemory = []

-- the bytes that went are those at the buffer's front
abbrev pub write_entries : ℕ → List ℕ → Wrote → List Entry
write_entries link from (wrote.Took n) = e.Went link (take n from) ∷ []
write_entries link from wrote.Balked = e.Balked (way.Write link) ∷ []
write_entries link from wrote.Failed = e.Broke link ∷ []
write_entries link from wrote.NoMemory = []

-- a look that found the link fine moves nothing
abbrev pub look_entries : ℕ → Looked → List Entry
look_entries link looked.Fine = e.Balked (way.Look link) ∷ []
look_entries link looked.Failed = e.Broke link ∷ []
look_entries link looked.NoMemory = []

-- what is ready, and behind a wait that answers Tick a Tick
abbrev pub wait_entries : List ReadyItem → Waited → List Entry
wait_entries ready waited.Woke = e.Wait ready woken.Woke ∷ []
wait_entries ready waited.Tick = e.Wait ready woken.Tick ∷ e.Tick ∷ []
wait_entries ready waited.Stop = e.Wait ready woken.Stop ∷ []
wait_entries ready waited.Failed = e.Wait ready woken.Failed ∷ []
wait_entries ready waited.NoMemory = []

-- what is ready now, and behind a glance that answers Tick a Tick
abbrev pub glance_entries : List ReadyItem → Glanced → List Entry
glance_entries ready glanced.Woke = e.Wait ready woken.Glanced ∷ []
glance_entries ready glanced.Tick = e.Wait ready woken.Glanced ∷ e.Tick ∷ []
glance_entries ready glanced.Failed = e.Wait ready woken.GlanceFailed ∷ []
glance_entries ready glanced.NoMemory = []

-- a link that lives is shut once; every other shut does nothing
abbrev pub shut_entries : ℕ → List Entry → List Entry
shut_entries link trace = if lives link trace && not (was_shut link trace) then e.Shut link ∷ [] else []

-- a link that lives is closed; every other close does nothing
abbrev pub close_entries : ℕ → Cause → List Entry → List Entry
close_entries link cause trace = if lives link trace then e.Closed link cause ∷ [] else []

-- the trace after a shut, where it is told
abbrev pub with_shut : ℕ → Option (List Entry) → Option (List Entry)
with_shut link None = None
with_shut link (Some trace) = Some (trace ++ shut_entries link trace)

-- the trace after a close, where it is told
abbrev pub with_closed : ℕ → Cause → Option (List Entry) → Option (List Entry)
with_closed link cause None = None
with_closed link cause (Some trace) = Some (trace ++ close_entries link cause trace)
