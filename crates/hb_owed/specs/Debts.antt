use Rattle.std.specs.Prelude.{◌≡◌, ℕ, ◌+◌, ◌≤◌, ◌<◌, Bool, true, false, List, [], Option, Some, None, IsSome, map, if◌then◌else◌}
use Rattle.std.specs.List.{flat_map}
use Rattle.std.specs.Ordering.{nat_cmp}
use Rattle.std.specs.FinMap.{FinMap, entries, get, insert, remove}
use Rattle.hb_frames.specs.Numbers.{largest}
use Rattle.hb_map.specs.Keyed.{written}
use Rattle.hb_owed.specs.declared.due.Due.{Due}
use Rattle.hb_owed.specs.declared.status.Status.{Status}
use Rattle.hb_owed.specs.Dues.{Debt, clear, dues_of, first, ends, is_done, without}

-- what is owed on each stream that has a record
abbrev pub Debts : Type 0
Debts = FinMap nat_cmp Debt

-- streams have numbers of 31 bits
unfoldable pub AreNumbered : Debts → Type 0
AreNumbered m = (n : ℕ) → IsSome (get m n) → n ≤ largest

-- a new record, which owes nothing
abbrev pub opened : Debts → ℕ → Debts
opened m s = insert m s clear

abbrev pub changed_by : Debts → ℕ → (Debt → Debt) → Option Debt → Debts
changed_by m s change None = m
changed_by m s change (Some d) = written m s (change d)

-- what is owed on the stream s changes so, where it has a record
abbrev pub changed : Debts → ℕ → (Debt → Debt) → Debts
changed m s change = changed_by m s change (get m s)

-- the record, where there is one, is of a closed stream and owes nothing
abbrev pub is_done_by : Option Debt → Bool
is_done_by None = false
is_done_by (Some d) = is_done d

-- the record of the stream s goes where it is closed and owes nothing
abbrev pub settled : Debts → ℕ → Debts
settled m s = if is_done_by (get m s) then remove m s else m

-- HEADERS of a status are owed
abbrev pub with_status : Status → Debt → Debt
with_status status d = record d { status = Some status }

-- the increment is larger by n
abbrev pub with_credit : ℕ → Debt → Debt
with_credit n d = record d { credit = d.credit + n }

-- END_STREAM is owed
abbrev pub with_end : Debt → Debt
with_end d = record d { end = true }

-- a status stays owed in front of a RST_STREAM; END_STREAM and an increment would say nothing any more
abbrev pub with_reset : ℕ → Debt → Debt
with_reset code d = record d { credit = 0; end = false; reset = Some code }

-- END_STREAM is owed no more
abbrev pub without_end : Debt → Debt
without_end d = record d { end = false }

-- the stream is closed
abbrev pub shut : Debt → Debt
shut d = record d { closed = true }

-- a closed stream's record goes, at once or when what it owes was put
abbrev pub closed : Debts → ℕ → Debts
closed m s = settled (changed m s shut) s

-- an owed END_STREAM is taken back
abbrev pub taken_back : Debts → ℕ → Debts
taken_back m s = settled (changed m s without_end) s

-- one owed frame of the stream s was put
abbrev pub struck : Debts → ℕ → Due → Debts
struck m s d = settled (changed m s (without d)) s

abbrev pub dues_by : Option Debt → List Due
dues_by None = []
dues_by (Some d) = dues_of d

-- the frames that are owed on the stream s, in the order in which they are put
abbrev pub dues_on : Debts → ℕ → List Due
dues_on m s = dues_by (get m s)

abbrev pub end_by : Option Debt → Bool
end_by None = false
end_by (Some d) = d.end

-- an empty DATA frame with END_STREAM is owed on the stream s
abbrev pub end_on : Debts → ℕ → Bool
end_on m s = end_by (get m s)

abbrev pub ends_by : Option Debt → Bool
ends_by None = false
ends_by (Some d) = ends d

-- a frame with END_STREAM is owed on the stream s
abbrev pub ends_on : Debts → ℕ → Bool
ends_on m s = ends_by (get m s)

abbrev pub credit_by : Option Debt → ℕ
credit_by None = 0
credit_by (Some d) = d.credit

-- the increment that is owed on the stream s
abbrev pub credit_on : Debts → ℕ → ℕ
credit_on m s = credit_by (get m s)

-- the number behind one, and the first of all
abbrev pub behind : Option ℕ → ℕ
behind None = 0
behind (Some n) = n + 1

-- the first owed frame with its stream, of the lowest stream that owes any
abbrev pub IsFirstDue : Debts → Option (ℕ × Due) → Type 0
IsFirstDue m None = (q : ℕ) → dues_on m q ≡ []
IsFirstDue m (Some x) = (first (dues_on m x.0) ≡ Some x.1) × ((q : ℕ) → q < x.0 → dues_on m q ≡ [])

-- the frames that a record owes, with its stream
abbrev pub tagged : ℕ × Debt → List (ℕ × Due)
tagged e = map (λ d. (e.0, d)) (dues_of e.1)

-- all owed frames with their streams, in the order in which they are put: the lowest stream first
unfoldable pub dues : Debts → List (ℕ × Due)
dues m = flat_map tagged (entries m)
