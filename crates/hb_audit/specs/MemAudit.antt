-- An audit that keeps its notes in memory.
use Rattle.std.specs.Prelude.{◌≡◌, ℕ, ◌==◌, ◌||◌, Bool, false, List, [], ◌∷◌, ◌++◌, length, Option, Some, None, nat_le}
use Rattle.hb_base.specs.Count.{one_more}
use Rattle.hb_base.specs.declared.note.Note.{Note}
use Rattle.hb_audit.specs.declared.audit.Noted.{Noted}
use Rattle.hb_audit.specs.declared.audit.Noted.TheVariants.{Kept, Failed, NoMemory}
use Rattle.hb_audit.specs.Held.{has_failed}
use Rattle.hb_audit.specs.Told.{Told}

-- the notes that it holds, how many fit, the number of the call that is to fail, how many calls came and how many failed
pub record Auditing : Type 0 where
  pub notes : List Note
  pub room : ℕ
  pub fail : Option ℕ
  pub calls : ℕ
  pub faults : ℕ

abbrev pub is_number : ℕ → Option ℕ → Bool
is_number n None = false
is_number n (Some m) = n == m

-- whether the next call fails: it is the one that is to fail, or there is no room
abbrev pub fails : Auditing → Bool
fails a = is_number (one_more a.calls) a.fail || nat_le a.room (length a.notes)

-- what stands after that answer to this note
abbrev pub after_note : Auditing → Note → Noted → Auditing
after_note a n Kept = record a { notes = a.notes ++ n ∷ []; calls = one_more a.calls }
after_note a n Failed = record a { calls = one_more a.calls; faults = one_more a.faults }
after_note a n NoMemory = record a { calls = one_more a.calls }

-- it answers that it failed exactly where the next call fails; else it kept the note or had no memory for it; reasons it lets go
abbrev pub answers_so : Auditing → Told → Noted → Auditing → Type 0
answers_so a t answer after = (has_failed answer ≡ fails a) × (after ≡ after_note a t.note answer)
