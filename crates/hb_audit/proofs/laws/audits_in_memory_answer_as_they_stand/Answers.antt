use Rattle.std.proofs.Common.{◌≡◌, ℕ, true, false, List, [], ◌∷◌, refl, ap, sym, ◌∙◌, inl, inr, ⊎_elim, subst}
use Rattle.std.specs.Prelude.{◌⊎◌, None, Some}
use Rattle.hb_base.specs.declared.note.Note.{Note}
use Rattle.hb_audit.specs.declared.audit.Noted.{Noted}
use Rattle.hb_audit.specs.declared.audit.Noted.TheVariants.{Kept, Failed, NoMemory}
use Rattle.hb_audit.specs.MemAudit.{Auditing, fails, after_note, answers_so}
use Rattle.hb_audit.specs.Refused.{first, second, roomy, full_of}
use Rattle.hb_audit.specs.Tells.{left_by, Gave, TellsOne}
use Rattle.hb_audit.specs.Told.{plain}
use Rattle.hb_audit.proofs.laws.audits_in_memory_answer_as_they_stand.Goals as goal

-- what one that kept a note gave
abbrev kept : (a : Auditing) (n : Note) → fails a ≡ false → Gave answers_so a (plain n)
kept a n well = record { answer = Kept; after = after_note a n Kept; own = (sym well, refl); others = [] }

module _ (a : Auditing) (left : List Auditing) (n : Note) where
  -- one alone that is told a note is left as it is once it kept that, or isn't left
  left_or_gone : (answer : Noted) (after : Auditing) (others : List Auditing) → answers_so a (plain n) answer after
      → left ≡ left_by answer after others → others ≡ [] → (left ≡ []) ⊎ (left ≡ after_note a n Kept ∷ [])
  left_or_gone Kept after others own is none = inr (is ∙ ap (λ (l : List Auditing). after ∷ l) none ∙ ap (λ (b : Auditing). b ∷ []) own.1)
  left_or_gone Failed after others own is none = inl (is ∙ none)
  left_or_gone NoMemory after others own is none = inl (is ∙ none)

  one_left : TellsOne answers_so (a ∷ []) left (plain n) → (left ≡ []) ⊎ (left ≡ after_note a n Kept ∷ [])
  one_left told = left_or_gone told.0.answer told.0.after told.0.others told.0.own told.1 told.2

  -- one that fails isn't left
  gone : fails a ≡ true → (answer : Noted) (after : Auditing) (others : List Auditing) → answers_so a (plain n) answer after
      → left ≡ left_by answer after others → others ≡ [] → left ≡ []
  gone failing Kept after others own is none = let no : false ≡ true = own.0 ∙ failing in absurd cc
  gone failing Failed after others own is none = is ∙ none
  gone failing NoMemory after others own is none = let no : false ≡ true = own.0 ∙ failing in absurd cc

  failing_goes : fails a ≡ true → TellsOne answers_so (a ∷ []) left (plain n) → left ≡ []
  failing_goes failing told = gone failing told.0.answer told.0.after told.0.others told.0.own told.1 told.2

-- where the first note left none, or the audit so
abbrev Behind : List Auditing → List Auditing → Type 0
Behind between left = (last : List Auditing) × TellsOne answers_so between last (plain second) × (left ≡ last)

none_behind : (left : Auditing) → Behind [] (left ∷ []) → ⊥
none_behind left t = let no : (left ∷ []) ≡ [] = t.2 ∙ t.1 in absurd cc

-- how many calls the first of them had
abbrev calls_of : List Auditing → ℕ
calls_of [] = 0
calls_of (a ∷ others) = a.calls

two_calls : ◌≡◌ {A = ℕ} 1 2 → ⊥
two_calls same = absurd cc

pub returns-clause-keeps : goal.returns-clause-keeps
returns-clause-keeps c =
    let one = after_note (roomy None) first Kept in
    let both = after_note one second Kept in
    (one ∷ [], (kept (roomy None) first refl, refl, refl), (both ∷ [], (kept one second refl, refl, refl), refl))

pub returns-clause-stays : goal.returns-clause-stays
returns-clause-stays c = λ left t.
    let old = roomy (Some 2) in
    let one = after_note old first Kept in
    ⊎_elim {A = t.0 ≡ []} {B = t.0 ≡ one ∷ []} (λ none. none_behind left (subst (λ (l : List Auditing). Behind l (left ∷ [])) none t.2))
    (λ is. let b = subst (λ (l : List Auditing). Behind l (left ∷ [])) is t.2 in
    let no : (left ∷ []) ≡ [] = b.2 ∙ failing_goes one b.0 second refl b.1 in absurd cc)
    (one_left old t.0 first t.1)

pub returns-clause-calls : goal.returns-clause-calls
returns-clause-calls c = λ t.
    let left = record (full_of None (first ∷ second ∷ []) 0) { calls = 1 } in
    let old = roomy None in
    let one = after_note old first Kept in
    ⊎_elim {A = t.0 ≡ []} {B = t.0 ≡ one ∷ []} (λ none. none_behind left (subst (λ (l : List Auditing). Behind l (left ∷ [])) none t.2))
    (λ is. let b = subst (λ (l : List Auditing). Behind l (left ∷ [])) is t.2 in
    ⊎_elim {A = b.0 ≡ []} {B = b.0 ≡ after_note one second Kept ∷ []}
    (λ none. let no : (left ∷ []) ≡ [] = b.2 ∙ none in absurd cc)
    (λ same. two_calls (ap calls_of (b.2 ∙ same)))
    (one_left one b.0 second b.1))
    (one_left old t.0 first t.1)

pub returns-clause-room : goal.returns-clause-room
returns-clause-room c = λ after own. let no : true ≡ false = own.0 in absurd cc
