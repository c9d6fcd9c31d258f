-- The notes of a run.
use Rattle.std.specs.Prelude.{⊤, ◌≡◌, List, [], Option, Some, None}
use Rattle.hb_base.specs.declared.note.Note.{Note}
use Rattle.hb_world.specs.declared.entry.Entry.{Entry}
use Rattle.hb_turns.specs.Shown.{Shown}
use Rattle.hb_turns.specs.Totals.{sums_of}
use Rattle.hb_turns.specs.declared.run.Run.{Run}
use Rattle.hb_turns.specs.declared.taken.Taken.{Taken}

-- the notes that are kept
abbrev pub held : Option (List Note) → List Note
held None = []
held (Some notes) = notes

-- where notes are kept, they are these
abbrev pub Holds : Option (List Note) → List Note → Type 0
Holds None notes = ⊤
Holds (Some kept) notes = kept ≡ notes

-- the notes that were taken are these: those that are kept, and what is counted in them
pub record AreTaken (taken : Taken) (notes : List Note) : Type 0 where
  pub kept_are : Holds taken.keep notes
  pub sums_are : taken.sums ≡ sums_of notes

-- The node stands for the trace once these notes were taken, and none waits: they are all notes of the trace, in order
pub record AreNotes {N : Type 0} (stands : List Note → N → List Entry → Type 0) (shown : N → Shown) (notes : List Note) (node : N)
    (trace : List Entry) : Type 0 where
  pub stands_for : stands notes node trace
  pub none_waits : (shown node).noted ≡ []

-- the notes that were taken are all notes of the trace
pub record HasAllNotes {N : Type 0} (stands : List Note → N → List Entry → Type 0) (shown : N → Shown) (run : Run N)
    (trace : List Entry) : Type 0 where
  pub notes : List Note
  pub are_notes : AreNotes stands shown notes run.node trace
  pub are_taken : AreTaken run.taken notes
