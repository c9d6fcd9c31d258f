-- The numbers of the streams that were used: they only rise, and a stream that is told to be opened is above them (RFC 9113 section
-- 5.1.1).
use Rattle.std.specs.Prelude.{⊤, ◌≡◌, ℕ, ◌<◌, ◌≤◌, Bool, List}
use Rattle.hb_streams.specs.declared.role.Role.TheVariants.{Server}
use Rattle.hb_conn.specs.Connection.{Connection, Finds}
use Rattle.hb_conn.specs.Observed.{streams, wrote}
use Rattle.hb_conn.specs.declared.found.Found.{Found}
use Rattle.hb_conn.specs.declared.found.Found.TheVariants as found
use Rattle.hb_history.specs.Points.{Point}
use Rattle.hb_history.specs.History.{Leads, StandsFor}

-- the highest number that was used
abbrev pub highest_used : Connection → ℕ
highest_used c = (streams c).highest

-- it doesn't fall by whatever happens: neither by what is looked at nor by what this end does or writes
abbrev pub PointsRaise : Type 0
PointsRaise = (c d : Connection) (points : List Point) → Leads c points d → highest_used c ≤ highest_used d

abbrev pub WritesLeave : Type 0
WritesLeave = (c : Connection) (n : ℕ) → streams (wrote c n) ≡ streams c

-- a stream that is told to be opened is above all that were used, and the highest now; one of which DATA is told was used
abbrev pub IsNumbered : Found → Connection → Connection → Type 0
IsNumbered (found.Opened stream end) c d = (highest_used c < stream) × (highest_used d ≡ stream)
IsNumbered (found.Chunk stream end) c d = stream ≤ highest_used d
IsNumbered _ c d = ⊤

-- so it is of all that a server is told
abbrev pub ToldAreNumbered : Type 0
ToldAreNumbered = (points : List Point) (given : List Found) (came written : List ℕ) (c d : Connection) (told : Found)
    → StandsFor Server points given came written c → Finds c d told → IsNumbered told c d

-- a stream that was used isn't opened again; one that is opened is the highest, whatever its end
abbrev pub UsedOpensNot : Type 0
UsedOpensNot = (c d : Connection) (stream : ℕ) (end : Bool) → stream ≤ highest_used c → IsNumbered (found.Opened stream end) c d → ⊥

abbrev pub HigherMayOpen : Type 0
HigherMayOpen = (c d : Connection) (end : Bool) → highest_used c ≡ 3 → highest_used d ≡ 5 → IsNumbered (found.Opened 5 end) c d
