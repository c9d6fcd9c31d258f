-- Which sides of streams acts and frames leave open (RFC 9113 section 5.1).
use Rattle.std.specs.Prelude.{⊤, ◌≡◌, ◌≢◌, ℕ, not, Bool, true, false, if◌then◌else◌, List}
use Rattle.hb_streams.specs.declared.role.Role.TheVariants.{Server}
use Rattle.hb_streams.specs.declared.sides.Sides.{Sides}
use Rattle.hb_owed.specs.declared.status.Status.{Status}
use Rattle.hb_conn.specs.Connection.{Connection, Finds}
use Rattle.hb_conn.specs.Observed.{sides, wrote, data_put, credited, status_put, end_put, aborted}
use Rattle.hb_conn.specs.declared.found.Found.{Found}
use Rattle.hb_conn.specs.declared.found.Found.TheVariants as found
use Rattle.hb_history.specs.Points.{Point}
use Rattle.hb_history.specs.History.{StandsFor}

-- neither side of a stream is open
abbrev pub neither : Sides
neither = record { own = false; peer = false }

-- this end's side ends, and the peer's does
abbrev pub own_ends : Bool → Sides → Sides
own_ends end s = if end then record s { own = false } else s

abbrev pub peer_ends : Bool → Sides → Sides
peer_ends end s = if end then record s { peer = false } else s

-- the sides of each stream are as they were, and those of each but this one
abbrev pub LeavesAll : Connection → Connection → Type 0
LeavesAll c d = (stream : ℕ) → sides d stream ≡ sides c stream

abbrev pub LeavesOthers : ℕ → Connection → Connection → Type 0
LeavesOthers stream c d = (other : ℕ) → other ≢ stream → sides d other ≡ sides c other

-- and this one has these from now on
pub record Becomes (stream : ℕ) (now : Sides) (c d : Connection) : Type 0 where
  pub here : sides d stream ≡ now
  pub others : LeavesOthers stream c d

-- what is written, DATA that is put, and octets that are used up leave all sides
abbrev pub WriteLeavesAll : Type 0
WriteLeavesAll = (c : Connection) (n : ℕ) → LeavesAll c (wrote c n)

abbrev pub PutLeavesAll : Type 0
PutLeavesAll = (c : Connection) (stream : ℕ) (bytes : List ℕ) → LeavesAll c (data_put c stream bytes)

abbrev pub UseLeavesAll : Type 0
UseLeavesAll = (c : Connection) (stream n : ℕ) → LeavesAll c (credited c stream n)

-- a status that ends its stream and an end close this end's side of it, a reset closes both
abbrev pub AnswerEndsSide : Type 0
AnswerEndsSide = (c : Connection) (stream : ℕ) (status : Status)
    → Becomes stream (own_ends status.end (sides c stream)) c (status_put c stream status)

abbrev pub EndEndsSide : Type 0
EndEndsSide = (c : Connection) (stream : ℕ) → Becomes stream (own_ends true (sides c stream)) c (end_put c stream)

abbrev pub ResetEndsBoth : Type 0
ResetEndsBoth = (c : Connection) (stream code : ℕ) → Becomes stream neither c (aborted c stream code)

-- what is told of a stream leaves the sides of each other one; DATA that ends it closes the peer's side, and a reset or an error both
abbrev pub SidesBehind : Found → Connection → Connection → Type 0
SidesBehind (found.Opened stream end) c d = LeavesOthers stream c d
SidesBehind (found.Chunk stream end) c d = Becomes stream (peer_ends end (sides c stream)) c d
SidesBehind (found.Reset stream code) c d = Becomes stream neither c d
SidesBehind (found.Broken stream code) c d = Becomes stream neither c d
SidesBehind (found.Fault code) c d = ⊤
SidesBehind told c d = LeavesAll c d

abbrev pub FindsSides : Type 0
FindsSides = (c d : Connection) (told : Found) → Finds c d told → SidesBehind told c d

-- of a stream that a server is told to be opened this end's side is open, and the peer's where it isn't told to end
abbrev pub IsOpenBehind : Found → Connection → Type 0
IsOpenBehind (found.Opened stream end) d = sides d stream ≡ record { own = true; peer = not end }
IsOpenBehind _ d = ⊤

abbrev pub OpenedIsOpen : Type 0
OpenedIsOpen = (points : List Point) (given : List Found) (came written : List ℕ) (c d : Connection) (told : Found)
    → StandsFor Server points given came written c → Finds c d told → IsOpenBehind told d
