use Rattle.std.specs.Prelude.{◌≡◌, ◌≤◌, ◌+◌, ⊤, ℕ, true, List, [], ◌∷◌, ◌++◌, length, take, fold}
use Rattle.hb_tunnel.specs.Way.{Way, Move, pushes, takes, ends, after, empty_way}

-- what was pushed is what was taken, followed by what is held
abbrev pub Carries : List ℕ → List ℕ → List ℕ → Type 0
Carries pushed taken held = pushed ≡ taken ++ held

-- the bytes that a move pushes
abbrev pub pushed_by : Move → List ℕ
pushed_by (pushes bytes) = bytes
pushed_by (takes count) = []
pushed_by ends = []

-- the bytes that a move takes of those that are held
abbrev pub taken_by : Way → Move → List ℕ
taken_by w (pushes bytes) = []
taken_by w (takes count) = take count w.held
taken_by w ends = []

-- the bytes that moves push, in order
abbrev pub pushed : List Move → List ℕ
pushed [] = []
pushed (m ∷ ms) = pushed_by m ++ pushed ms

-- the bytes that moves from a way on take, in order
abbrev pub taken : Way → List Move → List ℕ
taken w [] = []
taken w (m ∷ ms) = taken_by w m ++ taken (after w m) ms

-- what moves, in their order, make of a way
abbrev pub after_all : Way → List Move → Way
after_all w moves = fold after w moves

-- whatever happened on a way, what was pushed is what was taken, followed by what is held
abbrev pub NothingIsLost : Type 0
NothingIsLost = (moves : List Move) → Carries (pushed moves) (taken empty_way moves) (after_all empty_way moves).held

-- a way that has ended stays so, whatever happens
abbrev pub EndsStay : Type 0
EndsStay = (w : Way) (move : Move) → w.has_ended ≡ true → (after w move).has_ended ≡ true

-- a push fits a ring of this size
abbrev pub Fits : ℕ → Way → Move → Type 0
Fits size w (pushes bytes) = length w.held + length bytes ≤ size
Fits size w (takes count) = ⊤
Fits size w ends = ⊤

-- where a move fits, no more than the size is held after it
abbrev pub RoomIsKept : Type 0
RoomIsKept = (size : ℕ) (w : Way) (move : Move) → length w.held ≤ size → Fits size w move → length (after w move).held ≤ size
