-- What is told of a run: its notes, one after the other, each with the reason by what was held once it was made.
use Rattle.std.specs.Prelude.{⊤, ◌≡◌, List, [], ◌∷◌, ◌++◌, Option, Some, None}
use Rattle.hb_audit.specs.Tells.{Answering, Tells}
use Rattle.hb_audit.specs.Told.{Told, notes_of}
use Rattle.hb_base.specs.declared.note.Note.{Note}
use Rattle.hb_held.specs.Held.{Resources}
use Rattle.hb_laws.specs.Lawful.{Lawful}
use Rattle.hb_model.specs.declared.config.NodeConfig.{NodeConfig}
use Rattle.hb_proxy.specs.Notes.{notes}
use Rattle.hb_world.specs.declared.entry.Entry.{Entry}
use Rattle.hb_reason.specs.Denial.{reason_beside}

-- a note, where there is one, with its reason
abbrev pub reasoned : Resources → Note → Told
reasoned h n = record { note = n; reason = reason_beside h n }

abbrev pub told_by : Resources → Option Note → List Told
told_by h None = []
told_by h (Some n) = reasoned h n ∷ []

-- Behind a prefix of the trace the notes in front of this one were made, and this one, and its reason is by what is held there
pub record IsReasoned (g : NodeConfig) (trace : List Entry) (before : List Note) (t : Told) : Type 0 where
  pub prefix : List Entry
  pub rest : List Entry
  pub trace_is : trace ≡ prefix ++ rest
  pub lawful : Lawful g prefix
  pub later : List Note
  pub made : notes lawful.points ≡ before ++ t.note ∷ later
  pub reason_is : t.reason ≡ reason_beside lawful.machine.control.held t.note

-- so of each, where these notes were told before
abbrev pub AreReasoned : NodeConfig → List Entry → List Note → List Told → Type 0
AreReasoned g trace before [] = ⊤
AreReasoned g trace before (t ∷ told) = IsReasoned g trace before t × AreReasoned g trace (before ++ t.note ∷ []) told

-- These notes of the trace were told to audits, one after the other, each with its reason; each audit gave answers of its own, and those
-- are left that kept each
pub record Hear {A : Type 0} (own : Answering A) (g : NodeConfig) (trace : List Entry) (before after : List A) (all : List Note)
    : Type 0 where
  pub told : List Told
  pub notes_are : notes_of told ≡ all
  pub reasons : AreReasoned g trace [] told
  pub tells : Tells own before after told
