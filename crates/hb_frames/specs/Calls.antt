use Rattle.std.specs.Prelude.{◌≡◌, ℕ, ◌-◌, min, List, [], ◌∷◌, ◌++◌, length, take, Option, Some, None, Result, Ok, Err}
use Rattle.hb_frames.specs.RawFrame.{RawFrame, raw_at}
use Rattle.hb_frames.specs.Frames.{Joins, AreFrames, AreOctets}
use Rattle.hb_frames.specs.Reading.{Reading, space_of, fed, asked, first_of, fault_of, offset_after}
use Rattle.hb_frames.specs.declared.refusal.Refusal.{Refusal}

-- a call of feed with a piece, or of next_frame
pub data Call : Type 0 where
  feeds : List ℕ → Call
  asks : Call

-- a new reader
abbrev pub fresh : ℕ → Reading
fresh max = record { max = max; held = []; at = 0; last = [] }

-- what the reader stands for after the calls
abbrev pub after_calls : Reading → List Call → Reading
after_calls r [] = r
after_calls r (feeds piece ∷ calls) = after_calls (fed r piece) calls
after_calls r (asks ∷ calls) = after_calls (asked r) calls

-- the bytes that the calls took, joined
abbrev pub taken_by : Reading → List Call → List ℕ
taken_by r [] = []
taken_by r (feeds piece ∷ calls) = take (min (length piece) (space_of r)) piece ++ taken_by (fed r piece) calls
taken_by r (asks ∷ calls) = taken_by (asked r) calls

-- the frame that next_frame gives, if any
abbrev pub given_of : Reading → Result (Option ℕ) Refusal → List RawFrame
given_of r (Ok (Some n)) = raw_at r.held ∷ []
given_of r (Ok None) = []
given_of r (Err _) = []

-- the frames that the calls gave, in order
abbrev pub given_by : Reading → List Call → List RawFrame
given_by r [] = []
given_by r (feeds piece ∷ calls) = given_by (fed r piece) calls
given_by r (asks ∷ calls) = given_of r (first_of r.max r.held) ++ given_by (asked r) calls

-- each piece is of octets
abbrev pub ArePieces : List Call → Type 0
ArePieces [] = Unit {0}
ArePieces (feeds piece ∷ calls) = AreOctets piece × ArePieces calls
ArePieces (asks ∷ calls) = ArePieces calls

-- However a stream is cut into pieces and whenever frames are asked for: the frames given, followed by what is
-- held, spell all bytes taken.
abbrev pub AnyPieces : Type 0
AnyPieces = (max : ℕ) (calls : List Call) → ArePieces calls
    → Joins (given_by (fresh max) calls) (after_calls (fresh max) calls).held (taken_by (fresh max) calls)

-- Where the next answer is None, these are the frames of the bytes taken, and there are no others.
abbrev pub AllFrames : Type 0
AllFrames = (max : ℕ) (calls : List Call) → ArePieces calls
    → first_of max (after_calls (fresh max) calls).held ≡ Ok None
    → AreFrames (taken_by (fresh max) calls) (given_by (fresh max) calls) (after_calls (fresh max) calls).held

-- The offset is the count of the bytes taken that aren't held.
abbrev pub OffsetCounts : Type 0
OffsetCounts = (max : ℕ) (calls : List Call)
    → let later = after_calls (fresh max) calls in
    later.at ≡ offset_after 0 (length (taken_by (fresh max) calls) - length later.held)

-- A fault that next_frame gave comes again after any calls, and nothing is given any more.
abbrev pub FaultStays : Type 0
FaultStays = (r : Reading) (refusal : Refusal) (calls : List Call) → first_of r.max r.held ≡ Err refusal
    → let later = after_calls r calls in
    (first_of later.max later.held ≡ Err refusal) × (fault_of later refusal ≡ fault_of r refusal) × (given_by r calls ≡ [])

-- Two readers of one maximum that took the front of the same bytes, each in its own pieces, and that both tell a fault,
-- gave the same frames, and tell the same fault at the same offset.
abbrev pub OneFault : Type 0
OneFault = (max : ℕ) (calls others : List Call) (bytes more others_more : List ℕ) (refusal other : Refusal)
    → ArePieces calls → ArePieces others
    → bytes ≡ taken_by (fresh max) calls ++ more → bytes ≡ taken_by (fresh max) others ++ others_more
    → let later = after_calls (fresh max) calls in
    let others_later = after_calls (fresh max) others in
    first_of max later.held ≡ Err refusal → first_of max others_later.held ≡ Err other
    → (given_by (fresh max) calls ≡ given_by (fresh max) others) × (fault_of later refusal ≡ fault_of others_later other)
