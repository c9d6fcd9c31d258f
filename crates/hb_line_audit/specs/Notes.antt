-- The lines of what was told to an audit, one after the other.
use Rattle.std.specs.Prelude.{◌≡◌, ◌⊎◌, ℕ, List, [], ◌∷◌, ◌++◌, map, Option, None}
use Rattle.std.specs.Io.KnownBytes.{Appends}
use Rattle.hb_audit.specs.HeldBy.{answers_by}
use Rattle.hb_audit.specs.Tells.{Tells}
use Rattle.hb_audit.specs.Told.{Told}
use Rattle.hb_audit.specs.declared.audit.Noted.{Noted}
use Rattle.hb_base.specs.Count.{one_more}
use Rattle.hb_line_audit.specs.LineAudit.{TakesLine}
use Rattle.hb_line_audit.specs.Lines.{lost_line, handed}
use Rattle.hb_line_audit.specs.Why.{told_line}
use Rattle.hb_line_audit.specs.declared.line_audit.LineAudit.{LineAudit}

-- this is the text of these lines, in front of which so many had been lost, and behind which so many are: each stands there whole and in
-- its order, and in front of it the line that tells how many were lost before; or it is lost, whole, and counted
abbrev pub AreLines : List (List ℕ) → ℕ → List ℕ → ℕ → Type 0
AreLines [] lost text now = (text ≡ []) × (now ≡ lost)
AreLines (line ∷ lines) lost text now =
    ((rest : List ℕ) × (text ≡ (lost_line lost ++ line) ++ rest) × AreLines lines 0 rest now) ⊎ AreLines lines (one_more lost) text now

module _ {K : Type 0} (written : K → Option (List ℕ)) where
  -- what an audit may answer to what it is told, and what it is then: it takes the note's line with that of the reason
  abbrev pub TakesNote : LineAudit K → Told → Noted → LineAudit K → Type 0
  TakesNote a t answer after = TakesLine written a.lines after.lines (told_line t) answer

  -- an audit that is left once notes were told to it was handed their lines, with those of their reasons, where the sink tells what was
  -- written
  abbrev pub HandsLines : Type 0
  HandsLines = (old new : LineAudit K) (told : List Told) → Tells (answers_by (λ _. None) TakesNote) (old ∷ []) (new ∷ []) told
      → (text : List ℕ) × Appends (handed written old.lines) (handed written new.lines) text
      × AreLines (map told_line told) old.lines.lost text new.lines.lost
