-- An audit that is left once notes were told to it was handed their lines.
use Rattle.std.proofs.Common.{◌≡◌, ℕ, List, [], ◌∷◌, ◌++◌, refl, sym, ap, ◌∙◌, subst, inl, inr}
use Rattle.std.specs.Prelude.{◌⊎◌, map, Option, None}
use Rattle.std.specs.Io.KnownBytes.{Appends}
use Rattle.hb_audit.specs.HeldBy.{answers_by}
use Rattle.hb_audit.specs.Tells.{left_by, Tells}
use Rattle.hb_audit.specs.Told.{Told}
use Rattle.hb_audit.specs.declared.audit.Noted.{Noted}
use Rattle.hb_audit.specs.declared.audit.Noted.TheVariants.{Kept, Failed, NoMemory}
use Rattle.hb_audit.proofs.LeftLemmas.{none_come}
use Rattle.hb_line_audit.specs.LineAudit.{HandsOn, Loses}
use Rattle.hb_line_audit.specs.Lines.{Logging, lost_line, handed}
use Rattle.hb_line_audit.specs.Notes.{AreLines, TakesNote, HandsLines}
use Rattle.hb_line_audit.specs.Why.{told_line}
use Rattle.hb_line_audit.specs.declared.line_audit.LineAudit.{LineAudit}
use Rattle.hb_line_audit.proofs.Handed.{adds_behind, appends_both, appends_none}

module _ {K : Type 0} (written : K → Option (List ℕ)) where
  abbrev Answers : LineAudit K → Told → Noted → LineAudit K → Type 0
  Answers = answers_by (λ _. None) (TakesNote written)

  -- these lines were handed on from one to the other
  abbrev Handed : Logging K → Logging K → List Told → Type 0
  Handed old new told =
      (text : List ℕ) × Appends (handed written old) (handed written new) text × AreLines (map told_line told) old.lost text new.lost

  -- nothing was handed on
  none : (old new : Logging K) → new ≡ old → Handed old new []
  none old new is =
      subst (λ (l : Logging K). Handed old l []) (sym is) ([], appends_none (handed written old), (refl, refl))

  -- one more line in front of the others
  handed_on : (old mid new : Logging K) (n : Told) (notes : List Told) → HandsOn written old mid (told_line n) → Handed mid new notes
      → Handed old new (n ∷ notes)
  handed_on old mid new n notes on rest = (
    (lost_line old.lost ++ told_line n) ++ rest.0,
    appends_both (handed written old) (handed written mid) (handed written new) (lost_line old.lost ++ told_line n) rest.0 on.0 rest.1,
    inl (rest.0, refl, subst (λ (lost : ℕ). AreLines (map told_line notes) lost rest.0 new.lost) on.1 rest.2),
  )

  lost : (old mid new : Logging K) (n : Told) (notes : List Told) → Loses written old mid (told_line n) → Handed mid new notes
      → Handed old new (n ∷ notes)
  lost old mid new n notes on rest = (
    rest.0,
    adds_behind (handed written old) (handed written mid) (handed written new) rest.0 on.0 rest.1,
    inr (subst (λ (so_many : ℕ). AreLines (map told_line notes) so_many rest.0 new.lost) on.1 rest.2),
  )

  one : (old mid new : Logging K) (n : Told) (notes : List Told)
      → HandsOn written old mid (told_line n) ⊎ Loses written old mid (told_line n) → Handed mid new notes → Handed old new (n ∷ notes)
  one old mid new n notes (inl on) rest = handed_on old mid new n notes on rest
  one old mid new n notes (inr on) rest = lost old mid new n notes on rest

  head_is : (old new : LineAudit K) → (new ∷ []) ≡ (old ∷ []) → new ≡ old
  head_is old new is = cc

  -- by what it answered to the first
  by : (old new after : LineAudit K) (n : Told) (notes : List Told) (answer : Noted) (between others : List (LineAudit K))
      → Answers old n answer after → between ≡ left_by answer after others → others ≡ [] → Tells Answers between (new ∷ []) notes
      → ((next : LineAudit K) → Tells Answers (next ∷ []) (new ∷ []) notes → Handed next.lines new.lines notes)
      → Handed old.lines new.lines (n ∷ notes)
  by old new after n notes Kept between others own is alone rest so =
      one old.lines after.lines new.lines n notes own.0
      (so after (subst (λ (l : List (LineAudit K)). Tells Answers l (new ∷ []) notes)
      (is ∙ ap (λ (l : List (LineAudit K)). after ∷ l) alone) rest))
  by old new after n notes Failed between others own is alone rest so =
      let gone : (new ∷ []) ≡ [] = none_come Answers (new ∷ []) notes
      (subst (λ (l : List (LineAudit K)). Tells Answers l (new ∷ []) notes) (is ∙ alone) rest) in
      absurd cc
  by old new after n notes NoMemory between others own is alone rest so =
      let gone : (new ∷ []) ≡ [] = none_come Answers (new ∷ []) notes
      (subst (λ (l : List (LineAudit K)). Tells Answers l (new ∷ []) notes) (is ∙ alone) rest) in
      absurd cc

  pub hands_lines : HandsLines written
  hands_lines old new [] t = none old.lines new.lines (ap (λ (a : LineAudit K). a.lines) (head_is old new t))
  hands_lines old new (n ∷ notes) t =
      let gave = t.1.0 in
      by old new gave.after n notes gave.answer t.0 gave.others gave.own t.1.1 t.1.2 t.2 (λ next told. hands_lines next new notes told)
