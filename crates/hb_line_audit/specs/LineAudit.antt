-- What an audit makes of the line of a note.
use Rattle.std.specs.Prelude.{◌≡◌, ◌⊎◌, ℕ, ◌++◌, true, false, List, Option}
use Rattle.std.specs.Io.KnownBytes.{Appends, Keeps}
use Rattle.hb_base.specs.Count.{one_more}
use Rattle.hb_audit.specs.declared.audit.Noted.{Noted}
use Rattle.hb_audit.specs.declared.audit.Noted.TheVariants.{Kept, Failed, NoMemory}
use Rattle.hb_line_audit.specs.Lines.{Logging, lost_line, fits, handed}

module _ {K : Type 0} (written : K → Option (List ℕ)) where
  -- a line is handed on behind all others, and in front of it the one that tells how many were lost before
  abbrev pub HandsOn : Logging K → Logging K → List ℕ → Type 0
  HandsOn old new line = Appends (handed written old) (handed written new) (lost_line old.lost ++ line) × (new.lost ≡ 0)

  -- a line is lost, whole, and counted, since there was no room for it
  abbrev pub Loses : Logging K → Logging K → List ℕ → Type 0
  Loses old new line = Keeps (handed written old) (handed written new) × (new.lost ≡ one_more old.lost) × (fits line old ≡ false)

  -- no line is handed on, and none is lost
  abbrev pub Stays : Logging K → Logging K → Type 0
  Stays old new = Keeps (handed written old) (handed written new) × (new.lost ≡ old.lost)

  -- a line that was kept is handed on, or lost and counted; behind a put that failed, or without memory, nothing is
  abbrev pub TakesLine : Logging K → Logging K → List ℕ → Noted → Type 0
  TakesLine old new line Kept = HandsOn old new line ⊎ Loses old new line
  TakesLine old new line Failed = Stays old new × (new.failed ≡ true)
  TakesLine old new line NoMemory = Stays old new
