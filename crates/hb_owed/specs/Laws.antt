use Rattle.std.specs.Prelude.{◌≡◌, ⊤, ℕ, ◌≤◌, ◌<◌, List, [], ◌∷◌, ◌+◌, ◌++◌, map, ◌==◌}
use Rattle.std.specs.List.{filter, AllByRecursion}
use Rattle.hb_frames.specs.RawFrame.{RawFrame}
use Rattle.hb_hpack.specs.Encoding.{Writing}
use Rattle.hb_outgoing.specs.Waiting.{Waiting, room_of}
use Rattle.hb_owed.specs.declared.due.Due.{Due}
use Rattle.hb_owed.specs.Dues.{IsDue}
use Rattle.hb_owed.specs.Debts.{Debts, dues, dues_on}
use Rattle.hb_owed.specs.Frames.{frame_of, behind, size_of}
use Rattle.hb_owed.specs.Paid.{Payment, paid}

-- the frames that are put for what is owed, one after the other
abbrev pub frames_for : Writing → List (ℕ × Due) → List RawFrame
frames_for w [] = []
frames_for w (x ∷ xs) = frame_of w x.0 x.1 ∷ frames_for (behind x.1 w) xs

-- the first of what is owed doesn't fit the room
abbrev pub LacksRoom : List (ℕ × Due) → Waiting → Type 0
LacksRoom [] out = ⊤
LacksRoom (x ∷ xs) out = room_of out < size_of x.1

-- Of what was owed the first frames were put behind all that waited, in order and each once; the others are still
-- owed, in order; and the first of these doesn't fit.
pub record IsPayment (old new : Payment) : Type 0 where
  pub put : List (ℕ × Due)
  pub owed : dues old.owed ≡ put ++ dues new.owed
  pub queue : new.out.queue ≡ old.out.queue ++ frames_for old.writing put
  pub begun : new.out ≡ record old.out { queue = new.out.queue }
  pub lacking : LacksRoom (dues new.owed) new.out

-- so is each payment
abbrev pub PaysInOrder : Type 0
PaysInOrder = (p : Payment) → IsPayment p (paid p)

-- the streams don't fall
abbrev pub AreRising : List (ℕ × Due) → Type 0
AreRising [] = ⊤
AreRising (x ∷ xs) = AllByRecursion (λ y. x.0 ≤ y.0) xs × AreRising xs

-- what is owed is owed by rising streams
abbrev pub LowestFirst : Type 0
LowestFirst = (m : Debts) → AreRising (dues m)

-- of all that is owed, what is of one stream is what it owes, in its order
abbrev pub EachStream : Type 0
EachStream = (m : Debts) (s : ℕ) → map (λ x. x.1) (filter (λ x. x.0 == s) (dues m)) ≡ dues_on m s

-- the room that all these frames are put into
abbrev pub room_for : List (ℕ × Due) → ℕ
room_for [] = 0
room_for (x ∷ xs) = size_of x.1 + room_for xs

-- where there is room for all that is owed, nothing is owed afterwards
abbrev pub PlentyPaysAll : Type 0
PlentyPaysAll = (p : Payment) → AllByRecursion (λ x. IsDue x.1) (dues p.owed) → room_for (dues p.owed) ≤ room_of p.out
    → dues (paid p).owed ≡ []

-- where there is room for the largest frame afterwards, nothing is owed
abbrev pub RoomPaysAll : Type 0
RoomPaysAll = (p : Payment) → 17 ≤ room_of (paid p).out → dues (paid p).owed ≡ []
