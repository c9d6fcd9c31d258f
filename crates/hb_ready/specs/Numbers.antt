-- Links are numbered in order of birth.
use Rattle.std.specs.Prelude.{⊤, ◌≡◌, ◌<◌, ℕ, ◌+◌, true, false, List}
use Rattle.hb_world.specs.Trace.{births, lives, was_born, was_closed}
use Rattle.hb_world.specs.declared.entry.Entry.{Entry}
use Rattle.hb_world.specs.declared.entry.Entry.TheVariants as e

-- the link wasn't born, and not closed
abbrev pub IsUnborn : List Entry → ℕ → Type 0
IsUnborn trace l = (was_born l trace ≡ false) × (was_closed l trace ≡ false)

-- a link of a number above that of births wasn't born
abbrev pub Numbered : List Entry → Type 0
Numbered trace = (l : ℕ) → births trace < l → IsUnborn trace l

-- behind these entries a birth has the next number, and only a link that lives is closed
abbrev pub Numbers : List Entry → Entry → Type 0
Numbers before (e.Accepted l door) = l ≡ births before + 1
Numbers before (e.Dialled l to why) = l ≡ births before + 1
Numbers before (e.Closed l cause) = lives l before ≡ true
Numbers before _ = ⊤
