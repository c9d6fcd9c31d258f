-- The notes that a test keeps.
use Rattle.std.specs.Prelude.{Bool, true, false, List, Some, None}
use Rattle.hb_base.specs.declared.note.Note.{Note}
use Rattle.hb_link.specs.Noted.{Told}

-- all, until one is lost
abbrev pub kept : (lost : Bool) → List Note → Told
kept false notes = Some notes
kept true notes = None
