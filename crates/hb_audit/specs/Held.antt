-- What an audit holds once it was told a note.
use Rattle.std.specs.Prelude.{ℕ, Bool, true, false, List, [], ◌∷◌, ◌++◌, Option, slice_get}
use Rattle.std.specs.Option.{option_map, option_and_then}
use Rattle.hb_base.specs.declared.note.Note.{Note}
use Rattle.hb_audit.specs.declared.audit.Noted.{Noted}
use Rattle.hb_audit.specs.declared.audit.Noted.TheVariants.{Kept, Failed, NoMemory}

-- what an audit held, followed by this note, where it tells its notes
abbrev pub followed_by : Note → Option (List Note) → Option (List Note)
followed_by n held = option_map (λ notes. notes ++ n ∷ []) held

-- what it holds once it answered the note so: a note that it kept stands behind what it held; else all stays
abbrev pub held_after : Option (List Note) → Note → Noted → Option (List Note)
held_after held n Kept = followed_by n held
held_after held n Failed = held
held_after held n NoMemory = held

-- whether it failed; want of memory is no fault
abbrev pub has_failed : Noted → Bool
has_failed Kept = false
has_failed Failed = true
has_failed NoMemory = false

-- the note at a place, counted from 0, where an audit tells its notes
abbrev pub note_at : Option (List Note) → ℕ → Option Note
note_at held place = option_and_then (λ notes. slice_get notes place) held
