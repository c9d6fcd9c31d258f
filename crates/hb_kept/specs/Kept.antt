-- A connection that its owner keeps between two calls, and how much of its peer's octets the owner may take.
use Rattle.std.specs.Prelude.{◌≡◌, ℕ, ◌+◌, ◌-◌, ◌*◌, ◌/◌, ◌<◌, ◌≤◌, false, List, length, min}
use Rattle.hb_frames.specs.Frames.{AreOctets}
use Rattle.hb_streams.specs.declared.role.Role.{Role}
use Rattle.hb_conn.specs.Connection.{Connection, count_of, space_of, taken}
use Rattle.hb_conn.specs.Observed.{room, is_over, octets_held, IsLookedAt, OwesNoneWithRoom}
use Rattle.hb_history.specs.Budget.{WaitsForPreface, HasRoom}
use Rattle.hb_history.specs.History.{fresh}

-- octets are held of the next frame; nothing is owed where there is room; in front of a whole preface no frame is held; no
-- connection error was told
pub record IsKept (c : Connection) : Type 0 where
  pub octets : AreOctets (octets_held c)
  pub caught_up : OwesNoneWithRoom c
  pub preface : WaitsForPreface c
  pub goes_on : is_over c ≡ false

-- it is kept, with room for all that the frames held may still need
pub record Fares (c : Connection) : Type 0 where
  pub kept : IsKept c
  pub has_room : HasRoom c

-- the room that each octet that comes may need: three octets of answers, and two of what is granted again of its DATA
abbrev pub needed_each : ℕ
needed_each = 5

-- the room that is left beside these: to look at the last frame, and for the answers to the one that was begun before
abbrev pub set_aside : ℕ
set_aside = 320

-- so many octets have room for all that they may need
abbrev pub HasRoomFor : Connection → ℕ → Type 0
HasRoomFor c n = needed_each * n + set_aside ≤ room c

-- how many octets may be read: those that have room, of which the connection takes each
abbrev pub wants_of : Connection → ℕ
wants_of c = min ((room c - set_aside) / needed_each) (space_of c)

-- a new connection is kept
abbrev pub NewIsKept : Type 0
NewIsKept = (role : Role) → IsKept (fresh role)

-- behind octets that have room it fares
abbrev pub TakenFares : Type 0
TakenFares = (c : Connection) (bytes : List ℕ) → IsKept c → IsLookedAt c → AreOctets bytes → HasRoomFor c (length bytes)
    → Fares (taken c bytes)

-- so it does behind octets that were wanted, of which each is taken
abbrev pub WantedFares : Type 0
WantedFares = (c : Connection) (bytes : List ℕ) → IsKept c → IsLookedAt c → AreOctets bytes → 0 < length bytes
    → length bytes ≤ wants_of c → Fares (taken c bytes) × (count_of c bytes ≡ length bytes)

-- where one octet has room some are wanted
abbrev pub SomeAreWanted : Type 0
SomeAreWanted = (c : Connection) → IsKept c → IsLookedAt c → HasRoomFor c 1 → 0 < wants_of c
