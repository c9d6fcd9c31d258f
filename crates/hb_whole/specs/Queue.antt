-- Notes that wait to be taken.
use Rattle.std.specs.Prelude.{◌≡◌, List, [], ◌∷◌, Option, Some, None, Result, Ok, Err, if◌then◌else◌}
use Rattle.hb_base.specs.declared.cause.Cause.TheVariants.{NoMemory}
use Rattle.hb_base.specs.declared.note.Note.{Note}
use Rattle.hb_base.specs.declared.note.Note.TheVariants.{End}
use Rattle.hb_link.specs.Noted.{Takes}
use Rattle.hb_whole.specs.declared.queue.Queue.{Queue}

-- those that wait, in order; None once one was lost
abbrev pub told : Queue → Option (List Note)
told q = if q.lost then None else Some q.notes.items

-- where one was lost, one waits that is never taken
abbrev pub waiting_in : Option (List Note) → List Note
waiting_in None = End 0 0 NoMemory 0 0 ∷ []
waiting_in (Some notes) = notes

abbrev pub waiting : Queue → List Note
waiting q = waiting_in (told q)

-- a note is taken behind those that wait, or one is lost
abbrev pub Adds : {E : Type 0} → Result Note E → Queue → Queue → Type 0
Adds (Ok note) old new = Takes (told old) (note ∷ []) (told new)
Adds (Err why) old new = told new ≡ None
