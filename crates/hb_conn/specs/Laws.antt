-- What is owed, and the room of the output.
use Rattle.std.specs.Prelude.{◌≡◌, ◌≤◌, ℕ, []}
use Rattle.hb_outgoing.specs.Waiting.{room_of}
use Rattle.hb_owed.specs.Debts.{dues}
use Rattle.hb_frames.specs.Numbers.{largest}
use Rattle.hb_owed.specs.declared.due.Due.{Due}
use Rattle.hb_owed.specs.declared.status.Status.{Status}
use Rattle.hb_conn.specs.Owing.{with_due, wrote}
use Rattle.hb_conn.specs.Ending.{status_put, end_put}
use Rattle.hb_conn.specs.Credit.{credit}
use Rattle.hb_conn.specs.Faults.{aborted, given_up}
use Rattle.hb_conn.specs.Headers.{registered}
use Rattle.hb_conn.specs.declared.machine.Core.{Core}

-- where the output has room for the largest frame that can be owed, none is owed
abbrev pub IsCaughtUp : Core → Type 0
IsCaughtUp c = 17 ≤ room_of c.out → dues c.owed ≡ []

-- it stays so with each frame that is put or owed
abbrev pub FramesKeepUp : Type 0
FramesKeepUp = (c : Core) (stream : ℕ) (d : Due) → stream ≤ largest → IsCaughtUp c → IsCaughtUp (with_due c stream d)

-- with a status, an end, and octets that are used up
abbrev pub StatusesKeepUp : Type 0
StatusesKeepUp = (c : Core) (stream : ℕ) (status : Status) → stream ≤ largest → IsCaughtUp c → IsCaughtUp (status_put c stream status)

abbrev pub EndsKeepUp : Type 0
EndsKeepUp = (c : Core) (stream : ℕ) → stream ≤ largest → IsCaughtUp c → IsCaughtUp (end_put c stream)

abbrev pub CreditKeepsUp : Type 0
CreditKeepsUp = (c : Core) (stream n : ℕ) → stream ≤ largest → IsCaughtUp c → IsCaughtUp (credit c stream n)

-- with a new stream
abbrev pub OpeningKeepsUp : Type 0
OpeningKeepsUp = (c : Core) (stream : ℕ) → IsCaughtUp c → IsCaughtUp (registered c stream)

-- it is so after each write and after each reset, by either end
abbrev pub WritesCatchUp : Type 0
WritesCatchUp = (c : Core) (n : ℕ) → IsCaughtUp (wrote c n)

abbrev pub ResetsCatchUp : Type 0
ResetsCatchUp = (c : Core) (stream code : ℕ) → IsCaughtUp (aborted c stream code) × IsCaughtUp (given_up c stream)
