-- What the world of a script keeps of a link.
use Rattle.std.specs.Prelude.{◌≡◌, ℕ, ◌<◌, ◌==◌, min, Bool, true, false, if◌then◌else◌, List, [], ◌∷◌, ◌++◌, length, drop, Option, Some, None}
use Rattle.hb_world.specs.Script.{LinkScript, blank, said_with, pieces_by}
use Rattle.hb_world.specs.declared.line.Line.{Line}
use Rattle.hb_world.specs.declared.world.Finished.{Finished}
use Rattle.hb_world.specs.declared.world.Finished.TheVariants as finished
use Rattle.hb_world.specs.declared.world.Read.{Read}
use Rattle.hb_world.specs.declared.world.Read.TheVariants as reads
use Rattle.hb_world.specs.declared.world.Wrote.{Wrote}
use Rattle.hb_world.specs.declared.world.Wrote.TheVariants as wrote
use Rattle.hb_world.specs.declared.world.Looked.{Looked}
use Rattle.hb_world.specs.declared.world.Looked.TheVariants as looked

-- what the lines that were applied say of it, and the pieces of the lines to come
pub record LinkState : Type 0 where
  pub said : LinkScript
  pub coming : List (List ℕ)

-- a link that no line names
abbrev pub unnamed : LinkState
unnamed = record { said = blank; coming = [] }

-- what is kept once one more line that names the link is applied
abbrev pub state_with : LinkState → Line → LinkState
state_with k l = record { said = said_with k.said l; coming = drop (length (pieces_by l)) k.coming }

-- the pieces of the lines to come begin with those of this line
abbrev pub IsNext : List (List ℕ) → Line → Type 0
IsNext coming l = (more : List (List ℕ)) × (coming ≡ pieces_by l ++ more)

-- the pieces, of the first only what stands behind so many bytes
abbrev pub behind : ℕ → List (List ℕ) → List (List ℕ)
behind offset [] = []
behind offset (p ∷ ps) = drop offset p ∷ ps

-- an offset into the first of the pieces, 0 where there is none
abbrev pub IsOffset : ℕ → List (List ℕ) → Type 0
IsOffset offset [] = offset ≡ 0
IsOffset offset (p ∷ ps) = offset < length p

-- the first piece, or no bytes
abbrev pub front_of : List (List ℕ) → List ℕ
front_of [] = []
front_of (p ∷ ps) = p

-- how a finish answers by the last open or refuse
abbrev pub finish_said : Option Bool → Finished
finish_said None = finished.Balked
finish_said (Some true) = finished.Opened
finish_said (Some false) = finished.Failed

-- a read gives one piece or its first bytes; behind the pieces a broken link fails, and one that ended answers End
abbrev pub read_said : LinkScript → ℕ → Read
read_said k room =
    if length k.unread == 0 then (if k.broken then reads.Failed else if k.ended then reads.End else reads.Balked)
    else reads.Got (min (length (front_of k.unread)) room)

-- a write into this room of so many bytes
abbrev pub room_takes : Option ℕ → ℕ → Wrote
room_takes None n = wrote.Took n
room_takes (Some room) n = if room == 0 then wrote.Balked else wrote.Took (min room n)

-- a broken link fails at once
abbrev pub write_said : LinkScript → ℕ → Wrote
write_said k n = if k.broken then wrote.Failed else room_takes k.room n

-- a look at a broken link fails, also where it ended before
abbrev pub look_said : LinkScript → Looked
look_said k = if k.broken then looked.Failed else looked.Fine

-- bytes come only where the first piece has some
abbrev pub HasFront : List ℕ → Read → Type 0
HasFront front (reads.Got n) = 0 < length front
HasFront front _ = Unit {0}
