use Rattle.std.specs.Prelude.{◌≡◌, ℕ, Bool, true, false, not, List, Option, Some, None, fold}
use Rattle.std.specs.FinMap.{empty, get}
use Rattle.hb_hpack.specs.Encoding.{Writing}
use Rattle.hb_outgoing.specs.Waiting.{Waiting}
use Rattle.hb_owed.specs.declared.status.Status.{Status}
use Rattle.hb_owed.specs.Dues.{Debt}
use Rattle.hb_owed.specs.Debts.{Debts, opened, changed, closed, taken_back, with_status, with_credit, with_end, with_reset, is_done_by}
use Rattle.hb_owed.specs.Paid.{Payment, paid}

-- what happens to what is owed: streams get records, frames are owed, an END_STREAM is taken back, streams are closed,
-- and frames are put behind what waits; at the end nothing is owed any more
pub data Move : Type 0 where
  opens : (stream : ℕ) → Move
  owes_status : (stream : ℕ) (status : Status) → Move
  owes_credit : (stream n : ℕ) → Move
  owes_end : (stream : ℕ) → Move
  owes_reset : (stream code : ℕ) → Move
  takes_back : (stream : ℕ) → Move
  closes : (stream : ℕ) → Move
  pays : (out : Waiting) (writing : Writing) → Move
  clears : Move

-- what a move leaves owed
abbrev pub after : Debts → Move → Debts
after m (opens s) = opened m s
after m (owes_status s status) = changed m s (with_status status)
after m (owes_credit s n) = changed m s (with_credit n)
after m (owes_end s) = changed m s with_end
after m (owes_reset s code) = changed m s (with_reset code)
after m (takes_back s) = taken_back m s
after m (closes s) = closed m s
after m (pays out writing) = (paid (record { owed = m; out = out; writing = writing })).owed
after m clears = empty

-- what all that happened, in its order, leaves owed
abbrev pub after_all : List Move → Debts
after_all moves = fold after empty moves

-- no record is kept for ever: none is of a closed stream on which nothing is owed
abbrev pub ClosedGo : Type 0
ClosedGo = (moves : List Move) (s : ℕ) → is_done_by (get (after_all moves) s) ≡ false

-- there is a record, and its stream isn't closed
abbrev pub is_open : Option Debt → Bool
is_open None = false
is_open (Some d) = not d.closed

-- a payment gives no stream a record, and a record of a stream that isn't closed stays
abbrev pub KeepsRecords : Type 0
KeepsRecords = (p : Payment) (s : ℕ)
    → (get p.owed s ≡ None → get (paid p).owed s ≡ None)
    × (is_open (get p.owed s) ≡ true → is_open (get (paid p).owed s) ≡ true)
