use Rattle.std.specs.Prelude.{⊤, ℕ, ◌≤◌, List, [], ◌∷◌, fold, IfSome}
use Rattle.std.specs.FinMap.{get}
use Rattle.hb_flow.specs.Flows.{Flows, fresh, opened, closed, sendable, spent, given_back, granted, granted_on, took, took_on, owed, owed_on, paid, paid_on}
use Rattle.hb_flow.specs.Sizes.{resized}

-- what happens to the windows of a connection and its streams: streams get windows and lose them; the peer grants
-- octets and changes the initial size; this end sends DATA and takes back what hasn't begun; DATA comes, is used up,
-- and what is owed is granted again
pub data Move : Type 0 where
  opens : (stream : ℕ) → Move
  closes : (stream : ℕ) → Move
  grants : (n : ℕ) → Move
  grants_on : (stream n : ℕ) → Move
  resizes : (initial : ℕ) → Move
  sends : (stream n : ℕ) → Move
  takes_back : (stream n : ℕ) → Move
  takes : (n : ℕ) → Move
  takes_on : (stream n : ℕ) → Move
  owes : (n : ℕ) → Move
  owes_on : (stream n : ℕ) → Move
  pays : Move
  pays_on : (stream : ℕ) → Move

-- the windows after a move
abbrev pub after : Flows → Move → Flows
after f (opens s) = opened f s
after f (closes s) = closed f s
after f (grants n) = granted f n
after f (grants_on s n) = granted_on f s n
after f (resizes initial) = resized f initial
after f (sends s n) = spent f s n
after f (takes_back s n) = given_back f s n
after f (takes n) = took f n
after f (takes_on s n) = took_on f s n
after f (owes n) = owed f n
after f (owes_on s n) = owed_on f s n
after f pays = paid f
after f (pays_on s) = paid_on f s

-- what all that happened, in its order, makes of a new connection
abbrev pub after_all : List Move → Flows
after_all moves = fold after fresh moves

-- what the contracts ask or answer for: no DATA is sent that isn't sendable, none is taken beyond what is granted, and
-- no more is used up than came
abbrev pub May : Flows → Move → Type 0
May f (sends s n) = n ≤ sendable f s
May f (takes n) = n ≤ f.taking.granted
May f (takes_on s n) = IfSome (get f.streams s) (λ w. n ≤ w.taking.granted)
May f (owes n) = n ≤ f.taking.kept
May f (owes_on s n) = IfSome (get f.streams s) (λ w. n ≤ w.taking.kept)
May f _ = ⊤

-- each move may follow those before it
abbrev pub AllMay : Flows → List Move → Type 0
AllMay f [] = ⊤
AllMay f (move ∷ moves) = May f move × AllMay (after f move) moves
