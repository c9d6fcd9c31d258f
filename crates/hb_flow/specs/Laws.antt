use Rattle.std.specs.Prelude.{◌≡◌, ℕ, Bool, false, ◌+◌, ◌≤◌, ◌<◌, ◌==◌, if◌then◌else◌, pos, ◌+ℤ◌, ◌≤ℤ◌, List, [], ◌∷◌, ◌++◌, fold, Some}
use Rattle.std.specs.List.{sum_by}
use Rattle.std.specs.Option.{option_map}
use Rattle.std.specs.FinMap.{get}
use Rattle.hb_windows.specs.Taking.{Taking}
use Rattle.hb_flow.specs.Windows.{Windows, first_size}
use Rattle.hb_flow.specs.Flows.{Flows, fresh, sendable}
use Rattle.hb_flow.specs.Sizes.{with_size, resized}
use Rattle.hb_flow.specs.Moves.{Move, opens, grants, grants_on, sends, takes_back, after, after_all, AllMay}

-- after one more move the windows are as that move makes them
abbrev pub MovesAddUp : Type 0
MovesAddUp = (moves : List Move) (move : Move) → after_all (moves ++ move ∷ []) ≡ after (after_all moves) move

-- the octets of DATA that a move sends
abbrev pub sent : Move → ℕ
sent (sends s n) = n
sent _ = 0

-- the octets that a move gives to the connection: an increment, or DATA that is taken back
abbrev pub gained : Move → ℕ
gained (grants n) = n
gained (takes_back s n) = n
gained _ = 0

-- the connection's sending window is 65,535 and what it gained, less the DATA that was sent
abbrev pub ConnectionSends : Type 0
ConnectionSends = (moves : List Move)
    → ((after_all moves).sending.held +ℤ pos (sum_by sent moves)) ≡ pos (first_size + sum_by gained moves)

-- the octets of DATA that a move sends on the stream q
abbrev pub sent_on : ℕ → Move → ℕ
sent_on q (sends s n) = if q == s then n else 0
sent_on q _ = 0

-- the octets that a move gives to the stream q
abbrev pub gained_on : ℕ → Move → ℕ
gained_on q (grants_on s n) = if q == s then n else 0
gained_on q (takes_back s n) = if q == s then n else 0
gained_on q _ = 0

-- the move gives the stream q windows
abbrev pub begins : ℕ → Move → Bool
begins q (opens s) = q == s
begins q _ = false

-- one more move; those before are forgotten where the stream q gets windows
abbrev pub kept_since : ℕ → List Move → Move → List Move
kept_since q before move = if begins q move then [] else before ++ move ∷ []

-- the moves since the stream q got its windows
abbrev pub since : ℕ → List Move → List Move
since q moves = fold (kept_since q) [] moves

-- the sending window of a stream is the peer's initial size of now and what it gained, less the DATA that was sent on
-- it, since it got its windows
abbrev pub StreamSends : Type 0
StreamSends = (moves : List Move) (q : ℕ) (w : Windows) → get (after_all moves).streams q ≡ Some w
    → (w.sending.held +ℤ pos (sum_by (sent_on q) (since q moves)))
    ≡ pos ((after_all moves).initial + sum_by (gained_on q) (since q moves))

-- all octets of a taking window are granted, kept or owed
abbrev pub IsWhole : Taking → Type 0
IsWhole t = t.granted + t.kept + t.owed ≡ first_size

-- so it stays on the connection
abbrev pub ConnectionTakes : Type 0
ConnectionTakes = (moves : List Move) → AllMay fresh moves → IsWhole (after_all moves).taking

-- and so on each stream
abbrev pub StreamTakes : Type 0
StreamTakes = (moves : List Move) → AllMay fresh moves
    → (q : ℕ) (w : Windows) → get (after_all moves).streams q ≡ Some w → IsWhole w.taking

-- where DATA is sent, neither window is below zero afterwards
abbrev pub NeverBeyond : Type 0
NeverBeyond = (f : Flows) (q n : ℕ) → 0 < n → n ≤ sendable f q
    → (pos 0 ≤ℤ (after f (sends q n)).sending.held)
    × ((w : Windows) → get (after f (sends q n)).streams q ≡ Some w → pos 0 ≤ℤ w.sending.held)

-- a change of the initial size moves the window of each stream that has one, and gives none to others
abbrev pub ResizesEach : Type 0
ResizesEach = (f : Flows) (k q : ℕ) → get (resized f k).streams q ≡ option_map (with_size k) (get f.streams q)
