-- The entries that a call adds to the trace.
use Rattle.std.specs.Prelude.{ℕ, Bool, true, false, List, Option, Some, None}
use Rattle.hb_world.specs.declared.entry.Entry.{Entry}
use Rattle.hb_world.specs.Calls.{listen_entries, accept_entries, dial_entries, finish_entries, read_entries, write_entries}
use Rattle.hb_world.specs.Calls.{look_entries, shut_entries, close_entries, wait_entries, glance_entries}
use Rattle.hb_world.specs.declared.world.Born.TheVariants.{New}
use Rattle.hb_traced.specs.declared.call.Call.{Call}
use Rattle.hb_traced.specs.declared.call.Call.TheVariants.{Listen, Accept, Dial, Finish, Read, Write, Look, Shut, Close, Wait, Glance}

-- by its answer; of a shut and a close, which answer nothing, by the trace so far
abbrev pub entries_of : Call → List Entry → List Entry
entries_of (Listen at door answer) past = listen_entries door at answer
entries_of (Accept door answer) past = accept_entries door answer
entries_of (Dial to why answer) past = dial_entries to why answer
entries_of (Finish link answer) past = finish_entries link answer
entries_of (Read link into answer) past = read_entries link into.now answer
entries_of (Write link from answer) past = write_entries link from.now answer
entries_of (Look link answer) past = look_entries link answer
entries_of (Shut link) past = shut_entries link past
entries_of (Close link cause) past = close_entries link cause past
entries_of (Wait ready answer) past = wait_entries ready.now answer
entries_of (Glance ready answer) past = glance_entries ready.now answer

-- the number of the link that is born by the call
abbrev pub birth_of : Call → Option ℕ
birth_of (Accept door (New link)) = Some link
birth_of (Dial to why (New link)) = Some link
birth_of _ = None

-- no link is born by the call, and none is closed
abbrev pub is_still : Call → Bool
is_still (Accept door (New link)) = false
is_still (Dial to why (New link)) = false
is_still (Close link cause) = false
is_still _ = true
