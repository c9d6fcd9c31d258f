-- Closes of a link that the law refuses, and two that it lets.
use Rattle.std.specs.Prelude.{◌≡◌, ◌≢◌, ℕ, ◌==◌, false, List, [], ◌∷◌, ◌++◌}
use Rattle.hb_base.specs.declared.cause.Cause.{Cause}
use Rattle.hb_base.specs.declared.cause.Cause.TheVariants as cause
use Rattle.hb_base.specs.declared.door.Door.TheVariants as door
use Rattle.hb_conn.specs.Observed.{streams_open}
use Rattle.hb_conn.specs.declared.found.Found.{Found}
use Rattle.hb_conn.specs.declared.found.Found.TheVariants as found
use Rattle.hb_front.specs.Faults.{number_of}
use Rattle.hb_front.specs.Reading.{Seen}
use Rattle.hb_front.specs.declared.fault.FrontFault.{FrontFault}
use Rattle.hb_history.specs.Points as history
use Rattle.hb_hpack.specs.declared.header.HeaderList.{HeaderList}
use Rattle.hb_world.specs.declared.entry.Entry.TheVariants as e
use Rattle.hb_inbound.specs.Closes.{CloseLaw}
use Rattle.hb_inbound.specs.Connections.{IsOneHistory}
use Rattle.hb_inbound.specs.Ends.{is_fault_told}
use Rattle.hb_inbound.specs.Part.{Part, entry, welcomed, crowded, fronted, misfronted, looked, stopped}

-- link 2 is accepted, and its front header is whole
abbrev pub welcomed_in : List Part
welcomed_in = entry (e.Accepted 2 door.Inbound) ∷ welcomed ∷ []

abbrev pub served : Seen → List Part
served seen = welcomed_in ++ fronted seen ∷ []

-- it is closed while it is healthy; for another cause than the first; for a break where its peer sends no more
abbrev pub ClosesHealthy : Type 0
ClosesHealthy = (seen : Seen) (why : Cause) → CloseLaw (served seen ++ entry (e.Closed 2 why) ∷ []) → ⊥

abbrev pub ClosesForSecond : Type 0
ClosesForSecond = (fault : FrontFault) (why : Cause) → cause.FrontFault (number_of fault) ≢ why
    → CloseLaw (welcomed_in ++ misfronted fault ∷ stopped why ∷ entry (e.Closed 2 why) ∷ []) → ⊥

abbrev pub ClosesBroken : Type 0
ClosesBroken = (seen : Seen) → CloseLaw (served seen ++ entry (e.Ended 2) ∷ entry (e.Closed 2 cause.Broken) ∷ []) → ⊥

-- a stream is open where its peer sends no more, and it is closed as done
abbrev pub looked_on : Seen → List history.Point → Found → HeaderList → List Part
looked_on seen points told headers = served seen ++ looked points told headers ∷ entry (e.Ended 2) ∷ []

abbrev pub ClosesDone : Type 0
ClosesDone = (seen : Seen) (points : List history.Point) (told : Found) (headers : HeaderList)
    → ((now : IsOneHistory (looked_on seen points told headers)) → (streams_open now.conn == 0) ≡ false)
    → is_fault_told told ≡ false → CloseLaw (looked_on seen points told headers ++ entry (e.Closed 2 cause.Done) ∷ []) → ⊥

-- it is read behind its peer's end, looked at behind the run's stop, written twice behind a connection error, closed twice
abbrev pub ReadsEnded : Type 0
ReadsEnded = (seen : Seen) (bytes : List ℕ) → CloseLaw (served seen ++ entry (e.Ended 2) ∷ entry (e.Came 2 bytes) ∷ []) → ⊥

abbrev pub LooksStopped : Type 0
LooksStopped = (seen : Seen) (why : Cause) (points : List history.Point) (told : Found) (headers : HeaderList)
    → CloseLaw (served seen ++ stopped why ∷ looked points told headers ∷ []) → ⊥

abbrev pub WritesTwice : Type 0
WritesTwice = (seen : Seen) (code : ℕ) (points : List history.Point) (headers : HeaderList) (first second : List ℕ)
    → CloseLaw (served seen ++ looked points (found.Fault code) headers ∷ entry (e.Went 2 first) ∷ entry (e.Went 2 second) ∷ []) → ⊥

abbrev pub ClosesTwice : Type 0
ClosesTwice = (why again : Cause)
    → CloseLaw (entry (e.Accepted 2 door.Inbound) ∷ crowded ∷ entry (e.Closed 2 why) ∷ entry (e.Closed 2 again) ∷ []) → ⊥

-- it is turned away once it was taken in
abbrev pub TurnsAwayLate : Type 0
TurnsAwayLate = CloseLaw (welcomed_in ++ crowded ∷ []) → ⊥

-- it is closed for the fault of its front header; behind a connection error what waits is written once
abbrev pub ClosesMisfronted : Type 0
ClosesMisfronted = (fault : FrontFault)
    → CloseLaw (welcomed_in ++ misfronted fault ∷ entry (e.Closed 2 (cause.FrontFault (number_of fault))) ∷ [])

abbrev pub WritesOnce : Type 0
WritesOnce = (seen : Seen) (code : ℕ) (points : List history.Point) (headers : HeaderList) (bytes : List ℕ)
    → CloseLaw
    (served seen ++ looked points (found.Fault code) headers ∷ entry (e.Went 2 bytes)
    ∷ entry (e.Closed 2 (cause.ConnFault code)) ∷ [])
