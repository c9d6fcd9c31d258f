-- Small traces that the looks law refuses, and some that obey it.
use Rattle.std.specs.Prelude.{ℕ, zero, suc, List, [], ◌∷◌, ◌++◌}
use Rattle.hb_base.specs.declared.door.Door.TheVariants.{Inbound}
use Rattle.hb_base.specs.declared.door.Why.{Why}
use Rattle.hb_base.specs.declared.note.Note.{Note}
use Rattle.hb_base.specs.declared.target.Target.{Target}
use Rattle.hb_world.specs.declared.entry.Entry.{Entry}
use Rattle.hb_world.specs.declared.entry.Entry.TheVariants as e
use Rattle.hb_world.specs.declared.entry.Way.TheVariants as way
use Rattle.hb_world.specs.declared.entry.Woken.TheVariants as woken
use Rattle.hb_turns.specs.Looks.{LooksLaw}
use Rattle.hb_turns.specs.Settled.{SettledLaw}
use Rattle.hb_turns.specs.Shown.{Shown}

-- so many reads of a link, of one byte each
abbrev pub reads : ℕ → ℕ → List Entry
reads l zero = []
reads l (suc n) = e.Came l (0 ∷ []) ∷ reads l n

-- a glance that finds nothing
abbrev pub glances : Entry
glances = e.Wait [] woken.Glanced

-- one read too many of a link; with other entries between; and shared by two links
abbrev pub ReadsOn : Type 0
ReadsOn = LooksLaw (reads 1 84) → ⊥

abbrev pub ReadsBetween : Type 0
ReadsBetween = LooksLaw (reads 1 51 ++ e.Balked (way.Read 2) ∷ e.Went 2 (0 ∷ []) ∷ reads 1 33) → ⊥

abbrev pub ReadsBoth : Type 0
ReadsBoth = LooksLaw (glances ∷ reads 1 42 ++ reads 2 42) → ⊥

-- one accept too many
abbrev pub AcceptsOn : Type 0
AcceptsOn = LooksLaw (reads 1 83 ++ e.Accepted 2 Inbound ∷ []) → ⊥

-- a glance stands between
abbrev pub GoodTraceIsLooked : Type 0
GoodTraceIsLooked = LooksLaw (reads 1 83 ++ glances ∷ reads 1 83)

-- a glance may stand where a link is to be asked whether it is open
abbrev pub GlanceIsSettled : {N : Type 0} → (List Note → N → List Entry → Type 0) → (N → Shown) → Type 0
GlanceIsSettled stands shown = (to : Target) (why : Why) → SettledLaw stands shown (e.Dialled 1 to why ∷ glances ∷ [])
