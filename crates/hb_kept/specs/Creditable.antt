-- The octets of DATA that came on a stream and aren't used up: they grow by those that are handed out, fall by those that are used up,
-- and fit the stream's window (RFC 9113 section 6.9.1).
use Rattle.std.specs.Prelude.{⊤, ◌≡◌, ◌≢◌, ℕ, ◌+◌, ◌-◌, ◌≤◌, true, false, List, length}
use Rattle.hb_flow.specs.Windows.{first_size}
use Rattle.hb_owed.specs.declared.status.Status.{Status}
use Rattle.hb_streams.specs.declared.role.Role.TheVariants.{Server}
use Rattle.hb_conn.specs.Connection.{Connection}
use Rattle.hb_conn.specs.Observed.{sides, creditable, chunk_of, wrote, data_put, credited, status_put, end_put, aborted}
use Rattle.hb_conn.specs.declared.found.Found.{Found}
use Rattle.hb_conn.specs.declared.found.Found.TheVariants as found
use Rattle.hb_history.specs.Points.{Point}
use Rattle.hb_history.specs.History.{StandsFor}
use Rattle.hb_kept.specs.Looks.{IsLook}

-- while the peer's side of the stream is open they are so many
abbrev pub IsCreditable : (stream n : ℕ) → Connection → Type 0
IsCreditable stream n d = (sides d stream).peer ≡ true → creditable d stream ≡ n

-- as many as before, on each stream, and on each but this one
abbrev pub LeavesCreditable : Connection → Connection → Type 0
LeavesCreditable c d = (stream : ℕ) → IsCreditable stream (creditable c stream) d

abbrev pub LeavesOthersCreditable : ℕ → Connection → Connection → Type 0
LeavesOthersCreditable stream c d = (other : ℕ) → other ≢ stream → IsCreditable other (creditable c other) d

-- The octets of DATA that are handed out are added to them, and all together fit the window, also where the DATA ends the peer's side,
-- which was open before
pub record AddsTo (stream n : ℕ) (c d : Connection) : Type 0 where
  pub was : (sides c stream).peer ≡ true
  pub fits : creditable c stream + n ≤ first_size
  pub here : IsCreditable stream (creditable c stream + n) d
  pub others : LeavesOthersCreditable stream c d

-- what is told adds what it hands out, and nothing elsewhere; behind a connection error nothing counts
abbrev pub CreditableBehind : Found → Connection → Connection → Type 0
CreditableBehind (found.Chunk stream end) c d = AddsTo stream (length (chunk_of d (found.Chunk stream end))) c d
CreditableBehind (found.Opened stream end) c d = LeavesOthersCreditable stream c d
CreditableBehind (found.Fault code) c d = ⊤
CreditableBehind told c d = LeavesCreditable c d

abbrev pub LooksAdd : Type 0
LooksAdd = (points more : List Point) (given : List Found) (came written : List ℕ) (c d : Connection) (told : Found)
    → StandsFor Server points given came written c → IsLook c more told d → CreditableBehind told c d

-- what is written, and what this end puts, leaves them
abbrev pub WritesLeaveCreditable : Type 0
WritesLeaveCreditable = (c : Connection) (n : ℕ) → LeavesCreditable c (wrote c n)

abbrev pub PutsLeaveCreditable : Type 0
PutsLeaveCreditable = (c : Connection) (stream : ℕ) (bytes : List ℕ) → LeavesCreditable c (data_put c stream bytes)

abbrev pub AnswersLeaveCreditable : Type 0
AnswersLeaveCreditable = (c : Connection) (stream : ℕ) (status : Status) → LeavesCreditable c (status_put c stream status)

abbrev pub EndsLeaveCreditable : Type 0
EndsLeaveCreditable = (c : Connection) (stream : ℕ) → LeavesCreditable c (end_put c stream)

abbrev pub ResetsLeaveCreditable : Type 0
ResetsLeaveCreditable = (c : Connection) (stream code : ℕ) → LeavesCreditable c (aborted c stream code)

-- those that are used up are taken away
pub record TakesFrom (stream n : ℕ) (c d : Connection) : Type 0 where
  pub here : creditable d stream ≡ creditable c stream - n
  pub others : (other : ℕ) → other ≢ stream → creditable d other ≡ creditable c other

abbrev pub UsesTake : Type 0
UsesTake = (c : Connection) (stream n : ℕ) → TakesFrom stream n c (credited c stream n)

-- octets beyond the window are refused; so is DATA of which nothing is added while the peer's side is open
abbrev pub BeyondIsRefused : Type 0
BeyondIsRefused = (stream : ℕ) (c d : Connection) → creditable c stream ≡ 65535 → AddsTo stream 1 c d → ⊥

abbrev pub NoneAddedIsRefused : Type 0
NoneAddedIsRefused = (stream : ℕ) (c : Connection) → (sides c stream).peer ≡ true → creditable c stream ≡ 0 → AddsTo stream 1 c c → ⊥

-- where none waits a whole window may come
abbrev pub AllMayCome : Type 0
AllMayCome = (stream : ℕ) (c d : Connection) → (sides c stream).peer ≡ true → creditable c stream ≡ 0 → (sides d stream).peer ≡ false
    → LeavesOthersCreditable stream c d → AddsTo stream 65535 c d
