use Rattle.std.specs.Prelude.{⊤, ℕ, ◌≤◌, ◌<◌, ◌==◌, ◌&&◌, ◌||◌, Bool, true, false, List, [], ◌∷◌, ◌++◌, Option, Some, None, if◌then◌else◌}
use Rattle.hb_owed.specs.declared.due.Due.{Due}
use Rattle.hb_owed.specs.declared.due.Due.TheVariants as due
use Rattle.hb_owed.specs.declared.status.Status.{Status}

-- what a stream's record owes
pub record Debt : Type 0 where
  -- HEADERS of a status alone
  pub status : Option Status
  -- the increment of a WINDOW_UPDATE, 0 where none is owed
  pub credit : ℕ
  -- an empty DATA frame with END_STREAM
  pub end : Bool
  -- the error code of a RST_STREAM
  pub reset : Option ℕ
  -- the record goes once nothing is owed
  pub closed : Bool

-- a record that owes nothing
abbrev pub clear : Debt
clear = record { status = None; credit = 0; end = false; reset = None; closed = false }

-- the frame of a status, an increment, END_STREAM or an error code, where one is owed
abbrev pub status_due : Option Status → List Due
status_due None = []
status_due (Some status) = due.Status status ∷ []

abbrev pub credit_due : ℕ → List Due
credit_due n = if n == 0 then [] else due.Credit n ∷ []

abbrev pub end_due : Bool → List Due
end_due end = if end then due.End ∷ [] else []

abbrev pub reset_due : Option ℕ → List Due
reset_due None = []
reset_due (Some code) = due.Reset code ∷ []

-- the frames that are owed on one stream, in the order in which they are put
abbrev pub dues_of : Debt → List Due
dues_of d = status_due d.status ++ (credit_due d.credit ++ (end_due d.end ++ reset_due d.reset))

-- the first of a list
abbrev pub first : {A : Type 0} → List A → Option A
first [] = None
first (x ∷ xs) = Some x

-- the list is empty
abbrev pub is_nil : {A : Type 0} → List A → Bool
is_nil [] = true
is_nil (x ∷ xs) = false

-- after one of these frames was put
abbrev pub without : Due → Debt → Debt
without (due.Status status) d = record d { status = None }
without (due.Credit n) d = record d { credit = 0 }
without due.End d = record d { end = false }
without (due.Reset code) d = record d { reset = None }

abbrev pub status_ends : Option Status → Bool
status_ends None = false
status_ends (Some status) = status.end

-- a frame with END_STREAM is owed: an empty DATA frame, or HEADERS of a status
abbrev pub ends : Debt → Bool
ends d = d.end || status_ends d.status

-- a closed record that owes nothing
abbrev pub is_done : Debt → Bool
is_done d = d.closed && is_nil (dues_of d)

-- a status has three digits (RFC 9110 section 15)
abbrev pub IsStatus : Status → Type 0
IsStatus status = (100 ≤ status.number) × (status.number < 1000)

-- a frame that can be put
abbrev pub IsDue : Due → Type 0
IsDue (due.Status status) = IsStatus status
IsDue _ = ⊤
