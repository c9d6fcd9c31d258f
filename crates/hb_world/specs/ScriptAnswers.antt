-- What the world of a script answers behind a trace, want of memory aside.
use Rattle.std.specs.Prelude.{◌≡◌, ℕ, ◌+◌, ◌-◌, ◌^◌, ◌==◌, Bool, true, false, not, ◌&&◌, if◌then◌else◌, List, ◌∷◌, length, take}
use Rattle.std.specs.List.{list_any}
use Rattle.hb_base.specs.declared.door.Door.{Door}
use Rattle.hb_world.specs.declared.entry.Entry.{Entry}
use Rattle.hb_world.specs.declared.entry.Entry.TheVariants.{Balked}
use Rattle.hb_world.specs.declared.entry.Way.TheVariants.{Listen}
use Rattle.hb_world.specs.declared.line.Line.{Line}
use Rattle.hb_world.specs.declared.turn.Ending.{Ending}
use Rattle.hb_world.specs.declared.turn.Ending.TheVariants as ending
use Rattle.hb_world.specs.declared.line.Line.TheVariants.{FaultListen}
use Rattle.hb_world.specs.declared.world.Listened.{Listened}
use Rattle.hb_world.specs.declared.world.Listened.TheVariants as listened
use Rattle.hb_world.specs.declared.world.Born.{Born}
use Rattle.hb_world.specs.declared.world.Born.TheVariants as born
use Rattle.hb_world.specs.declared.world.Finished.{Finished}
use Rattle.hb_world.specs.declared.world.Finished.TheVariants as finished
use Rattle.hb_world.specs.declared.world.Read.{Read}
use Rattle.hb_world.specs.declared.world.Read.TheVariants as reads
use Rattle.hb_world.specs.declared.world.Wrote.{Wrote}
use Rattle.hb_world.specs.declared.world.Wrote.TheVariants as wrote
use Rattle.hb_world.specs.declared.world.Looked.{Looked}
use Rattle.hb_world.specs.declared.world.Looked.TheVariants as looked
use Rattle.hb_world.specs.declared.world.Waited.{Waited}
use Rattle.hb_world.specs.declared.world.Waited.TheVariants as waited
use Rattle.hb_world.specs.declared.entry.ReadyItem.{ReadyItem}
use Rattle.hb_world.specs.LinkState.{finish_said, read_said, write_said, look_said, front_of}
use Rattle.hb_world.specs.Script.{standing, turn_of, turn_ends, ready_in}
use Rattle.hb_world.specs.Trace.{births, lives}

-- a listen, of whatever door
abbrev pub is_listen : Entry → Bool
is_listen (Balked (Listen door at listening)) = true
is_listen _ = false

-- the script begins with a fault of the first listen
abbrev pub begins_with_fault : List Line → Bool
begins_with_fault (FaultListen ∷ lines) = true
begins_with_fault _ = false

-- the first listen fails where the script begins with such a line
abbrev pub listen_answer : List Line → List Entry → Listened
listen_answer lines trace =
    if begins_with_fault lines && not (list_any is_listen trace) then listened.Failed else listened.Listening

-- the next link, while a number is left
abbrev pub next_link : List Entry → Born
next_link trace = if births trace == 2 ^ 64 - 1 then born.Failed else born.New (births trace + 1)

-- a connection that waits at the door
abbrev pub accept_answer : List Line → List Entry → Door → Born
accept_answer lines trace door =
    if (standing lines trace).waiting door == 0 then born.Balked else next_link trace

-- a link, unless the dial is one that fails
abbrev pub dial_answer : List Line → List Entry → Born
dial_answer lines trace = if (standing lines trace).failing == 0 then next_link trace else born.Failed

-- a link that doesn't live balks
abbrev pub finish_answer : List Line → List Entry → ℕ → Finished
finish_answer lines trace link =
    if lives link trace then finish_said ((standing lines trace).links link).opening else finished.Balked

abbrev pub read_answer : List Line → List Entry → ℕ → ℕ → Read
read_answer lines trace link room =
    if lives link trace then read_said ((standing lines trace).links link) room else reads.Balked

abbrev pub write_answer : List Line → List Entry → ℕ → ℕ → Wrote
write_answer lines trace link offered =
    if lives link trace then write_said ((standing lines trace).links link) offered else wrote.Balked

abbrev pub look_answer : List Line → List Entry → ℕ → Looked
look_answer lines trace link =
    if lives link trace then look_said ((standing lines trace).links link) else looked.Fine

-- the bytes that a read gives are the first of the piece in front
abbrev pub GivesFront : List Line → List Entry → ℕ → List ℕ → Read → Type 0
GivesFront lines trace link into (reads.Got n) = take n into ≡ take n (front_of ((standing lines trace).links link).unread)
GivesFront lines trace link into _ = Unit {0}

-- the answer of a wait that these lines are before
abbrev pub waited_for : Ending → Waited
waited_for ending.Woke = waited.Woke
waited_for ending.Tick = waited.Tick
waited_for ending.Stop = waited.Stop
waited_for ending.Failed = waited.Failed

-- a wait answers by the line that ends it; while items wait to be told, Woke
abbrev pub wait_answer : List Line → List Entry → Waited
wait_answer lines trace = if length (standing lines trace).rest == 0 then waited_for (turn_ends
    (standing lines trace).coming) else waited.Woke

-- what a wait tells: at most 1,024 of the items
abbrev pub told_by_wait : List Line → List Entry → List ReadyItem
told_by_wait lines trace =
    take 1024 (if length (standing lines trace).rest == 0 then ready_in (turn_of (standing lines trace).coming) trace
    else (standing lines trace).rest)

-- the items that a wait leaves: those told, or at want of memory what stood there
abbrev pub LeavesReady : List ReadyItem → List ReadyItem → List ReadyItem → Waited → Type 0
LeavesReady before after told waited.NoMemory = after ≡ before
LeavesReady before after told _ = after ≡ told
