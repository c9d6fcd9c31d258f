use Rattle.std.specs.Prelude.{◌≡◌, ◌≢◌, ℕ, ◌≤◌, ◌<◌, ◌||◌, IsTrue, IsFalse, List, [], ◌∷◌, ◌++◌, Some, Ok}
use Rattle.std.specs.FinMap.{len, get}
use Rattle.circular_buffer.specs.Buffer.{keep_last}
use Rattle.hb_streams.specs.Numbers.{most_active, most_resets, is_even}
use Rattle.hb_streams.specs.Resets.{with_reset}
use Rattle.hb_streams.specs.Sides.{is_closed}
use Rattle.hb_streams.specs.States.{States, state_of}
use Rattle.hb_streams.specs.Answers.{number_of}
use Rattle.hb_streams.specs.Moves.{Move, begins, after, after_all}
use Rattle.hb_streams.specs.declared.role.Role.{Role}
use Rattle.hb_streams.specs.declared.sides.Sides.{Sides}
use Rattle.hb_streams.specs.declared.state.State.TheVariants.{Idle}

-- the streams are in the states that all moves of a connection make
abbrev pub StandsFor : Role → List Move → States → Type 0
StandsFor role moves s = s ≡ after_all role moves

-- whatever moves they stood for, after one more they stand for these followed by it
abbrev pub MovesAddUp : Type 0
MovesAddUp = (role : Role) (moves : List Move) (s : States) (move : Move)
    → StandsFor role moves s → StandsFor role (moves ++ move ∷ []) (after s move)

-- never more than 100 streams are active
abbrev pub StaysInRoom : Type 0
StaysInRoom = (role : Role) (moves : List Move) → len (after_all role moves).active ≤ most_active

-- each active stream has an odd number, which was used, and an open side
abbrev pub ActiveAreInUse : Type 0
ActiveAreInUse = (role : Role) (moves : List Move) (n : ℕ) (sides : Sides)
    → get (after_all role moves).active n ≡ Some sides
    → IsFalse (is_even n) × (n ≤ (after_all role moves).highest) × IsTrue (sides.own || sides.peer)

-- a stream that is closed stays closed
abbrev pub StaysClosed : Type 0
StaysClosed = (role : Role) (moves : List Move) (move : Move) (n : ℕ)
    → IsTrue (is_closed (state_of (after_all role moves) n))
    → IsTrue (is_closed (state_of (after_all role (moves ++ move ∷ [])) n))

-- a stream that was used is never idle again
abbrev pub StaysUsed : Type 0
StaysUsed = (role : Role) (moves : List Move) (move : Move) (n : ℕ)
    → state_of (after_all role moves) n ≢ Idle → state_of (after_all role (moves ++ move ∷ [])) n ≢ Idle

-- a stream that this end begins has an odd number, which is above all that were used, and is used from then on
abbrev pub NumbersRise : Type 0
NumbersRise = (s : States) (limit n : ℕ) → number_of s limit ≡ Ok n
    → IsFalse (is_even n) × (s.highest < n) × ((after s (begins limit)).highest ≡ n)

-- the highest number that was used never falls
abbrev pub HighestStays : Type 0
HighestStays = (s : States) (move : Move) → s.highest ≤ (after s move).highest

-- to keep the last 128 resets at each reset is to keep the last 128 of all
abbrev pub LastAreKept : Type 0
LastAreKept = (resets : List ℕ) (n : ℕ)
    → with_reset (keep_last most_resets resets) n ≡ keep_last most_resets (resets ++ n ∷ [])
