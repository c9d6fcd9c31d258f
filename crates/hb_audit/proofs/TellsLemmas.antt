-- Audits to which notes are told, one after the other.
use Rattle.std.proofs.Common.{◌≡◌, ℕ, suc, ◌+◌, ◌<◌, ◌≤◌, List, [], ◌∷◌, ◌++◌, length, take, drop, set, get_or}
use Rattle.std.proofs.Common.{refl, sym, ap, ap₂, ◌∙◌, subst, append-nil, length-take, arith}
use Rattle.std.specs.Prelude.{◌⊎◌}
use Rattle.std.specs.List.{remove}
use Rattle.std.proofs.lemmas.List.{take_more, take_more_set, take-set, drop_more, drop-set-lt, length-drop, take_all}
use Rattle.std.proofs.Math.Seq.{take-append_seam, drop-append_seam}
use Rattle.hb_audit.specs.declared.audit.Noted.{Noted}
use Rattle.hb_audit.specs.declared.audit.Noted.TheVariants.{Kept, Failed, NoMemory}
use Rattle.hb_audit.specs.Tells.{Answering, left_by, TellsOne, Tells}
use Rattle.hb_audit.specs.Told.{Told}

-- what stands at a place from which on both lists are the same
at_same : {B : Type 0} (olds news : List B) (i k : ℕ) (b : B) → drop i news ≡ drop k olds → i < length news → b ≡ get_or news i b
    → (k < length olds) × (b ≡ get_or olds k b) × (drop (i + 1) news ≡ drop (k + 1) olds)
at_same olds news i k b same within is =
    let in_olds : k < length olds = omega (arith, within, length-drop i news, length-drop k olds, ap length same) in
    let both = sym (drop_more news i b within) ∙ same ∙ drop_more olds k b in_olds in
    (in_olds, is ∙ ap (λ l. get_or l 0 b) both, ap (λ l. drop 1 l) both)

-- one that did not keep the note isn't left
none_left : {B : Type 0} (a : Noted) (c : B) → (a ≡ Failed) ⊎ (a ≡ NoMemory) → left_by a c [] ≡ []
none_left Kept c why = grind (arith, why)
none_left Failed c why = refl
none_left NoMemory c why = refl

left_by-more : {B : Type 0} (a : Noted) (c : B) (others more : List B) → left_by a c others ++ more ≡ left_by a c (others ++ more)
left_by-more Kept c others more = refl
left_by-more Failed c others more = refl
left_by-more NoMemory c others more = refl

-- what is left once the audit at a place was told and dropped
without : {B : Type 0} (news : List B) (i : ℕ) (c : B) → i < length news
    → (take i (remove (set news i c) i) ≡ take i news) × (drop i (remove (set news i c) i) ≡ drop (i + 1) news)
without news i c within =
    let next : suc i ≡ i + 1 = omega arith in
    let both : remove (set news i c) i ≡ take i news ++ drop (i + 1) news =
    ap₂ (λ xs ys. xs ++ ys) (take-set news i c) (drop-set-lt (suc i) news i c (omega arith) ∙ ap (λ k. drop k news) next) in
    let long : length (take i news) ≡ i = omega (arith, within, length-take i news) in (
      ap (take i) both ∙ subst (λ k. take k (take i news ++ drop (i + 1) news) ≡ take i news) long (take-append_seam (take i news) (drop
          (i + 1) news)),
      ap (drop i) both ∙ subst (λ k. drop k (take i news ++ drop (i + 1) news) ≡ drop (i + 1) news) long (drop-append_seam (take i news)
          (drop (i + 1) news)),
    )

module _ {B : Type 0} (answers : Answering B) where
  -- one more audit answers, and is c then
  tells_next : (olds left : List B) (n : Told) (a : Noted) (b c : B) → TellsOne answers olds left n → answers b n a c
      → TellsOne answers (olds ++ b ∷ []) (left ++ left_by a c []) n
  tells_next [] left n a b c told own =
      (record { answer = a; after = c; own = own; others = [] }, ap (λ (l : List B). l ++ left_by a c []) told, refl)
  tells_next (x ∷ olds) left n a b c told own =
      let gave = told.0 in (
        record { answer = gave.answer; after = gave.after; own = gave.own; others = gave.others ++ left_by a c [] },
        ap (λ (l : List B). l ++ left_by a c []) told.1 ∙ left_by-more gave.answer gave.after gave.others (left_by a c []),
        tells_next olds gave.others n a b c told.2 own,
      )

  module _ (olds news : List B) (i k : ℕ) (n : Told) (told : TellsOne answers (take k olds) (take i news) n) where
    -- the audit that is told next, as it stood, answers
    told_more : (b c : B) (a : Noted) → drop i news ≡ drop k olds → i < length news → b ≡ get_or news i b → answers b n a c
        → TellsOne answers (take (k + 1) olds) (take i news ++ left_by a c []) n
    told_more b c a same within is own =
        let h = at_same olds news i k b same within is in
        subst (λ (xs : List B). TellsOne answers xs (take i news ++ left_by a c []) n)
        (sym (take_more olds k b h.0 ∙ ap (λ (x : B). take k olds ++ x ∷ []) (sym h.1)))
        (tells_next (take k olds) (take i news) n a b c told own)

    -- it kept the note, and c stands in its place
    pub told_kept : (j : ℕ) (b c : B) (a : Noted) → drop i news ≡ drop k olds → i < length news → b ≡ get_or news i b → answers b n a c
        → a ≡ Kept → k + 1 ≡ j
        → TellsOne answers (take j olds) (take (i + 1) (set news i c)) n × (drop (i + 1) (set news i c) ≡ drop j olds)
    told_kept j b c a same within is own kept next =
        let h = at_same olds news i k b same within is in (
          subst (λ (m : ℕ). TellsOne answers (take m olds) (take (i + 1) (set news i c)) n) next
              (subst (λ (xs : List B). TellsOne answers (take (k + 1) olds) xs n)
              (ap (λ (x : Noted). take i news ++ left_by x c []) kept ∙ sym (take_more_set news i c within))
              (told_more b c a same within is own)),
          drop-set-lt (i + 1) news i c (omega arith) ∙ (h.2 ∙ ap (λ (m : ℕ). drop m olds) next),
        )

    -- it did not keep the note, and is dropped
    pub told_dropped : (left : List B) (j : ℕ) (b c : B) (a : Noted) → drop i news ≡ drop k olds → i < length news → b ≡ get_or news i b
        → answers b n a c → (a ≡ Failed) ⊎ (a ≡ NoMemory) → left ≡ remove (set news i c) i → k + 1 ≡ j
        → TellsOne answers (take j olds) (take i left) n × (drop i left ≡ drop j olds)
    told_dropped left j b c a same within is own why removed next =
        let h = at_same olds news i k b same within is in
        let rest = without news i c within in
        let more = subst (λ (xs : List B). TellsOne answers (take (k + 1) olds) xs n)
        (ap (λ (xs : List B). take i news ++ xs) (none_left a c why) ∙ append-nil (take i news))
        (told_more b c a same within is own) in (
          subst (λ (m : ℕ). TellsOne answers (take m olds) (take i left) n) next
              (subst (λ (xs : List B). TellsOne answers (take (k + 1) olds) xs n) (sym (ap (take i) removed ∙ rest.0)) more),
          ap (drop i) removed ∙ rest.1 ∙ (h.2 ∙ ap (λ (m : ℕ). drop m olds) next),
        )

    -- once all were told
    pub told_all : length olds ≤ k → length news ≤ i → TellsOne answers olds news n
    told_all old_end new_end =
        subst (λ (xs : List B). TellsOne answers xs news n) (take_all k olds old_end)
        (subst (λ (xs : List B). TellsOne answers (take k olds) xs n) (take_all i news new_end) told)

  -- one more note is told behind the others
  pub tells_more : (old between new : List B) (notes : List Told) (n : Told) → Tells answers old between notes
      → TellsOne answers between new n → Tells answers old new (notes ++ n ∷ [])
  tells_more old between new [] n t one = (new, subst (λ (audits : List B). TellsOne answers audits new n) t one, refl)
  tells_more old between new (m ∷ notes) n t one = (t.0, t.1, tells_more t.0 between new notes n t.2 one)
