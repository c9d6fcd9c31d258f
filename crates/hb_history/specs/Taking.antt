-- The windows for what the peer sends.
use Rattle.std.specs.Prelude.{◌≡◌, ℕ, false, List, Some}
use Rattle.std.specs.FinMap.{get}
use Rattle.hb_streams.specs.declared.role.Role.{Role}
use Rattle.hb_flow.specs.Windows.{Windows}
use Rattle.hb_flow.specs.Laws.{IsWhole}
use Rattle.hb_conn.specs.Connection.{Connection}
use Rattle.hb_conn.specs.declared.found.Found.{Found}
use Rattle.hb_history.specs.Points.{Point}
use Rattle.hb_history.specs.History.{StandsFor}

-- of the 65,535 octets of the connection's window and of each stream's, all are granted, kept or owed, after every history,
-- unless a connection error was told (RFC 9113 section 6.9.2)
abbrev pub TakingIsWhole : Type 0
TakingIsWhole = (role : Role) (points : List Point) (given : List Found) (came written : List ℕ) (c : Connection)
    → StandsFor role points given came written c → c.receiver.core.over ≡ false
    → IsWhole c.receiver.core.flow.taking
    × ((n : ℕ) (w : Windows) → get c.receiver.core.flow.streams n ≡ Some w → IsWhole w.taking)
