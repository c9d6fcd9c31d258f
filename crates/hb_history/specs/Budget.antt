-- How much room of the output the answers to a peer's octets take.
use Rattle.std.specs.Prelude.{◌≡◌, ◌⊎◌, ◌≤◌, ℕ, ◌+◌, ◌-◌, ◌*◌, true, false, if◌then◌else◌, List, [], ◌∷◌, length, Option, Some, Result, Ok}
use Rattle.hb_frames.specs.Reading.{Reading, first_of}
use Rattle.hb_frames.specs.declared.refusal.Refusal.{Refusal}
use Rattle.hb_streams.specs.declared.role.Role.{Role}
use Rattle.hb_conn.specs.Glance.{glance_of}
use Rattle.hb_conn.specs.Laws.{IsCaughtUp}
use Rattle.hb_conn.specs.Outcome.{is_silent}
use Rattle.hb_conn.specs.Preface.{is_whole}
use Rattle.hb_conn.specs.Connection.{Connection, Finds, taken}
use Rattle.hb_conn.specs.Observed.{room}
use Rattle.hb_conn.specs.declared.machine.Core.{Core}
use Rattle.hb_conn.specs.declared.found.Found.{Found}
use Rattle.hb_conn.specs.declared.found.Found.TheVariants.{Silent}
use Rattle.hb_conn.specs.declared.glance.Glance.TheVariants.{Nothing}
use Rattle.hb_history.specs.History.{fresh}
use Rattle.hb_history.specs.Calls.{Call, MakesAll}

-- No whole frame is held, so that nothing is left to be looked at; of a preface 24 octets came at most
abbrev pub HoldsNoFrame : Connection → Type 0
HoldsNoFrame c = (glance_of c.receiver.reader ≡ Nothing) × (c.preface.came ≤ 24)

-- The most octets of answers that the frames held may still get: 26 for the frame in front, which are two WINDOW_UPDATE,
-- and 3 for each octet behind it, since every frame has nine octets at least
abbrev pub most_by : ℕ → Result (Option ℕ) Refusal → ℕ
most_by held (Ok (Some n)) = 3 * (held - n) + 26
most_by held _ = 0

abbrev pub most_of : Reading → ℕ
most_of r = most_by (length r.held) (first_of r.max r.held)

abbrev pub most : Connection → ℕ
most c = most_of c.receiver.reader

-- a GOAWAY has 17 octets; only one is put
abbrev pub goaway_of : Core → ℕ
goaway_of c = if c.over then 17 else 0

-- with all that is found the room falls by no more than what may still be answered falls, and a GOAWAY
abbrev pub FindsWithin : Type 0
FindsWithin = (c d : Connection) (told : Found) → IsCaughtUp c.receiver.core → Finds c d told
    → room c + most d ≤ room d + most c + goaway_of d.receiver.core

-- n octets that are taken behind frames that were looked at may get 3 * n octets of answers, and 26
abbrev pub TakesWithin : Type 0
TakesWithin = (c : Connection) (piece : List ℕ) → HoldsNoFrame c → most (taken c piece) ≤ 3 * length piece + 26

-- what happened next is asked for again and again, until nothing more is told
abbrev pub Asked : Connection → List Found → Connection → Type 0
Asked c [] d = Finds c d Silent
Asked c (told ∷ more) d = (is_silent told ≡ false) × (mid : Connection) × Finds c mid told × Asked mid more d

-- so the answers to n octets that are taken lower the room by 3 * n + 64 at most
abbrev pub AnswersAreFew : Type 0
AnswersAreFew = (c d : Connection) (piece : List ℕ) (told : List Found) → IsCaughtUp c.receiver.core → HoldsNoFrame c
    → Asked (taken c piece) told d → room c ≤ room d + 3 * length piece + 64

-- A caller that takes no more octets than a third of the room above 320 always has room for the answers: every whole frame
-- is looked at, or a connection error was told.
abbrev pub NeverPauses : Type 0
NeverPauses = (c d : Connection) (piece : List ℕ) (told : List Found) → IsCaughtUp c.receiver.core → HoldsNoFrame c
    → 3 * length piece + 320 ≤ room c → Asked (taken c piece) told d
    → (256 ≤ room d) × ((d.receiver.core.over ≡ true) ⊎ HoldsNoFrame d)

-- in front of a whole preface no frame is held (RFC 9113 section 3.4)
abbrev pub WaitsForPreface : Connection → Type 0
WaitsForPreface c = (c.preface.came ≤ 24) × (is_whole c.preface ≡ false → glance_of c.receiver.reader ≡ Nothing)

-- so it is of every connection that came of calls
abbrev pub CallsWait : Type 0
CallsWait = (role : Role) (calls : List Call) (came written : List ℕ) (c : Connection) → MakesAll (fresh role) calls came written c
    → WaitsForPreface c

-- where nothing more is told and there is room, every whole frame was looked at, or a connection error was told
abbrev pub LooksAtAll : Type 0
LooksAtAll = (c d : Connection) → WaitsForPreface c → Finds c d Silent → 256 ≤ room d
    → (d.receiver.core.over ≡ true) ⊎ HoldsNoFrame d

-- What the frames that are held may still need where all their DATA is used up as it is told: 13 octets for the frame in front,
-- which are a WINDOW_UPDATE, and 2 for each octet behind it, since every frame has nine octets at least
abbrev pub credit_by : ℕ → Result (Option ℕ) Refusal → ℕ
credit_by held (Ok (Some n)) = 2 * (held - n) + 13
credit_by held _ = 0

abbrev pub credit_most_of : Reading → ℕ
credit_most_of r = credit_by (length r.held) (first_of r.max r.held)

abbrev pub credit_most : Connection → ℕ
credit_most c = credit_most_of c.receiver.reader

-- with all that the frames held may still need, there is room to look at the last of them
abbrev pub HasRoom : Connection → Type 0
HasRoom c = most c + credit_most c + 256 ≤ room c
