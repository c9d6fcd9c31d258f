-- Which notes were told.
use Rattle.std.specs.Prelude.{◌≡◌, ◌⊎◌, List, ◌++◌, Option, Some, None}
use Rattle.hb_base.specs.declared.note.Note.{Note}

-- all that were made, one behind another; none once one was lost
abbrev pub Told : Type 0
Told = Option (List Note)

-- Notes are taken behind those that were told; or one is lost, and then none is told any more
abbrev pub Takes : Told → List Note → Told → Type 0
Takes None more now = now ≡ None
Takes (Some told) more now = (now ≡ None) ⊎ (now ≡ Some (told ++ more))
