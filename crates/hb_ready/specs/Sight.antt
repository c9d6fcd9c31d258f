-- What a trace tells of a link and of a door: whether the link was dialled, whether it is open, the ways that sleep, whether an accept may
-- give a link.
use Rattle.std.specs.Prelude.{ℕ, ◌==◌, ◌||◌, ◌&&◌, not, Bool, true, false, if◌then◌else◌, List, Option, Some, None}
use Rattle.std.specs.List.{fold, list_any}
use Rattle.hb_base.specs.declared.door.Door.{Door}
use Rattle.hb_base.specs.declared.door.Door.TheVariants.{Inbound, Outbound, Plain}
use Rattle.hb_world.specs.declared.entry.Entry.{Entry}
use Rattle.hb_world.specs.declared.entry.Entry.TheVariants as e
use Rattle.hb_world.specs.declared.entry.ReadyItem.{ReadyItem}
use Rattle.hb_world.specs.declared.entry.ReadyItem.TheVariants as item
use Rattle.hb_world.specs.declared.entry.Way.{Way}
use Rattle.hb_world.specs.declared.entry.Way.TheVariants as way
use Rattle.hb_world.specs.Trace.{lives, same_door}
use Rattle.hb_ready.specs.declared.doors.Asked.{Asked}
use Rattle.hb_ready.specs.declared.link.Link.{Link}

-- the item is this link
abbrev pub is_item_of : ℕ → ReadyItem → Bool
is_item_of l (item.Link k) = k == l
is_item_of l _ = false

-- the items name this link
abbrev pub is_named : ℕ → List ReadyItem → Bool
is_named l ready = list_any (is_item_of l) ready

-- the item is this door
abbrev pub is_item_at : Door → ReadyItem → Bool
is_item_at d (item.Door k) = same_door k d
is_item_at d _ = false

-- the items name this door
abbrev pub is_asked : Door → List ReadyItem → Bool
is_asked d ready = list_any (is_item_at d) ready

-- a link at its birth: every way is awake; it is open where it was accepted, and isn't where it was dialled
abbrev pub fresh : Bool → Link
fresh opens = record {
  is_dialled = not opens;
  is_open = opens;
  finish_sleeps = false;
  read_sleeps = false;
  write_sleeps = false;
  has_ended = false;
  look_sleeps = false;
}

-- every way is awake
abbrev pub awake : Link → Link
awake k = record k { finish_sleeps = false; read_sleeps = false; write_sleeps = false; look_sleeps = false }

-- a finish told that it is open
abbrev pub with_open : Link → Link
with_open k = record k { is_open = true; finish_sleeps = false }

-- a way sleeps, or not
abbrev pub with_finish : Bool → Link → Link
with_finish b k = record k { finish_sleeps = b }

abbrev pub with_read : Bool → Link → Link
with_read b k = record k { read_sleeps = b }

abbrev pub with_write : Bool → Link → Link
with_write b k = record k { write_sleeps = b }

abbrev pub with_look : Bool → Link → Link
with_look b k = record k { look_sleeps = b }

-- a read told that its peer sends no more, which is as good as a look
abbrev pub with_end : Link → Link
with_end k = record k { read_sleeps = false; has_ended = true; look_sleeps = true }

-- A link behind one more entry: a birth begins it anew, a call that moved something wakes its way, one that moved nothing puts its
-- way to sleep, and a wait that names the link wakes every way. A call that failed leaves it as it is
abbrev pub sight_behind : ℕ → Link → Entry → Link
sight_behind l k (e.Accepted n door) = if n == l then fresh true else k
sight_behind l k (e.Dialled n to why) = if n == l then fresh false else k
sight_behind l k (e.Opened n) = if n == l then with_open k else k
sight_behind l k (e.Came n bytes) = if n == l then with_read false k else k
sight_behind l k (e.Ended n) = if n == l then with_end k else k
sight_behind l k (e.Went n bytes) = if n == l then with_write false k else k
sight_behind l k (e.Balked (way.Finish n)) = if n == l then with_finish true k else k
sight_behind l k (e.Balked (way.Read n)) = if n == l then with_read true k else k
sight_behind l k (e.Balked (way.Write n)) = if n == l then with_write true k else k
sight_behind l k (e.Balked (way.Look n)) = if n == l then with_look true k else k
sight_behind l k (e.Wait ready how) = if is_named l ready then awake k else k
sight_behind l k _ = k

-- a link as a trace tells of it
abbrev pub sight : ℕ → List Entry → Link
sight l trace = fold (sight_behind l) (fresh false) trace

-- asleep for a way: its last call moved nothing, and no wait named its link since
abbrev pub asleep : Way → List Entry → Bool
asleep (way.Finish l) trace = (sight l trace).finish_sleeps
asleep (way.Read l) trace = (sight l trace).read_sleeps
asleep (way.Write l) trace = (sight l trace).write_sleeps
asleep (way.Look l) trace = (sight l trace).look_sleeps
asleep _ trace = false

-- the link is open: it was accepted, or a finish told so
abbrev pub is_open : ℕ → List Entry → Bool
is_open l trace = (sight l trace).is_open

-- the link's peer sends no more: a read told so
abbrev pub has_ended : ℕ → List Entry → Bool
has_ended l trace = (sight l trace).has_ended

-- a link that lives, as a trace tells of it
abbrev pub known : ℕ → List Entry → Option Link
known l trace = if lives l trace then Some (sight l trace) else None

-- whether an accept may give a link at a door, behind one more entry: a wait names the door, or an accept gives none there
abbrev pub asked_behind : Door → Bool → Entry → Bool
asked_behind d now (e.Wait ready how) = is_asked d ready || now
asked_behind d now (e.Balked (way.Accept at)) = not (same_door at d) && now
asked_behind d now (e.Balked (way.Listen at to listening)) = not (same_door at d) && now
asked_behind d now _ = now

-- a wait named the door, since it was told to listen and since its last accept that gave no link
abbrev pub asked : Door → List Entry → Bool
asked d trace = fold (asked_behind d) false trace

-- what is kept of a door
abbrev pub asked_at : Asked → Door → Bool
asked_at doors Inbound = doors.inbound
asked_at doors Outbound = doors.outbound
asked_at doors Plain = doors.plain
