-- Where the output has room, nothing is owed, whatever the peer sends.
use Rattle.std.specs.Prelude.{⊤, ◌≡◌, ◌≤◌, ℕ, false, List, [], ◌∷◌}
use Rattle.hb_frames.specs.Numbers.{largest}
use Rattle.hb_streams.specs.declared.role.Role.{Role}
use Rattle.hb_conn.specs.Glance.{IsInRange}
use Rattle.hb_conn.specs.Handling.{Handles}
use Rattle.hb_conn.specs.Receiving.{pauses}
use Rattle.hb_conn.specs.Laws.{IsCaughtUp}
use Rattle.hb_conn.specs.Connection.{Connection, Finds}
use Rattle.hb_conn.specs.declared.machine.Core.{Core}
use Rattle.hb_conn.specs.declared.found.Found.{Found}
use Rattle.hb_conn.specs.declared.glance.Glance.{Glance}
use Rattle.hb_history.specs.Points.{Move, answered, ended, credited}
use Rattle.hb_history.specs.History.{fresh}
use Rattle.hb_history.specs.Calls.{Call, acts, MakesAll}

-- it stays so with each frame that is looked at
abbrev pub LooksKeepUp : Type 0
LooksKeepUp = (c new : Core) (glance : Glance) (bytes : List ℕ) (told : Found) → pauses c ≡ false → IsInRange glance
    → Handles c glance bytes new told → IsCaughtUp c → IsCaughtUp new

-- with all that is found
abbrev pub FindsKeepUp : Type 0
FindsKeepUp = (c d : Connection) (told : Found) → Finds c d told → IsCaughtUp c.receiver.core → IsCaughtUp d.receiver.core

-- what this end does on a stream, it does on one whose number has 31 bits (RFC 9113 section 5.1.1)
abbrev pub IsOnStream : Move → Type 0
IsOnStream (answered stream status) = stream ≤ largest
IsOnStream (ended stream) = stream ≤ largest
IsOnStream (credited stream n) = stream ≤ largest
IsOnStream _ = ⊤

abbrev pub AreOnStreams : List Call → Type 0
AreOnStreams [] = ⊤
AreOnStreams (acts move ∷ calls) = IsOnStream move × AreOnStreams calls
AreOnStreams (_ ∷ calls) = AreOnStreams calls

-- and so it is of every connection that came of calls
abbrev pub CallsCatchUp : Type 0
CallsCatchUp = (role : Role) (calls : List Call) (came written : List ℕ) (c : Connection) → AreOnStreams calls
    → MakesAll (fresh role) calls came written c → IsCaughtUp c.receiver.core
