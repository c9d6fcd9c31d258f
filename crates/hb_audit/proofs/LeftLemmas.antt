-- Audits that are left hold all notes.
use Rattle.std.proofs.Common.{◌≡◌, suc, List, [], ◌∷◌, ◌++◌, refl, sym, ap, ◌∙◌, subst, append-nil, append_assoc, inl, inr}
use Rattle.std.specs.Prelude.{Option, None, Some, length, map}
use Rattle.hb_base.specs.declared.note.Note.{Note}
use Rattle.hb_audit.specs.declared.audit.Noted.{Noted}
use Rattle.hb_audit.specs.declared.audit.Noted.TheVariants.{Kept, Failed, NoMemory}
use Rattle.hb_audit.specs.Held.{followed_by, held_after}
use Rattle.hb_audit.specs.HeldBy.{answers_by}
use Rattle.hb_audit.specs.Laws.{StandIn, followed_by_all, LeftHoldAll, AllStay}
use Rattle.hb_audit.specs.Tells.{Answering, left_by, TellsOne, Tells}
use Rattle.hb_audit.specs.Told.{Told, notes_of}

StandIn-same : {A : Type 0} (xs : List A) → StandIn xs xs
StandIn-same [] = tt
StandIn-same (x ∷ xs) = inl (refl, StandIn-same xs)

StandIn-skip : {A : Type 0} (xs ys : List A) (y : A) → StandIn xs ys → StandIn xs (y ∷ ys)
StandIn-skip [] ys y h = tt
StandIn-skip (x ∷ xs) ys y h = inr h

StandIn-trans : {A : Type 0} (xs ys zs : List A) → StandIn xs ys → StandIn ys zs → StandIn xs zs
StandIn-trans [] ys zs h k = tt
StandIn-trans (x ∷ xs) [] zs h k = absurd h
StandIn-trans (x ∷ xs) (y ∷ ys) [] h k = absurd k
StandIn-trans (x ∷ xs) (y ∷ ys) (z ∷ zs) (inl h) (inl k) = inl (h.0 ∙ k.0, StandIn-trans xs ys zs h.1 k.1)
StandIn-trans (x ∷ xs) (y ∷ ys) (z ∷ zs) (inr h) (inl k) = StandIn-skip (x ∷ xs) zs z (StandIn-trans (x ∷ xs) ys zs h k.1)
StandIn-trans (x ∷ xs) (y ∷ ys) (z ∷ zs) h (inr k) = inr (StandIn-trans (x ∷ xs) (y ∷ ys) zs h k)

StandIn-map : {A B : Type 0} (f : A → B) (xs ys : List A) → StandIn xs ys → StandIn (map f xs) (map f ys)
StandIn-map f [] ys h = tt
StandIn-map f (x ∷ xs) [] h = absurd h
StandIn-map f (x ∷ xs) (y ∷ ys) (inl h) = inl (ap f h.0, StandIn-map f xs ys h.1)
StandIn-map f (x ∷ xs) (y ∷ ys) (inr h) = inr (StandIn-map f (x ∷ xs) ys h)

-- one note, and then the others
followed-next : (n : Note) (notes : List Note) (held : Option (List Note)) → followed_by_all notes (followed_by n held) ≡ followed_by_all
    (n ∷ notes) held
followed-next n notes None = refl
followed-next n notes (Some before) = ap Some (append_assoc before (n ∷ []) notes)

all_next : (n : Note) (notes : List Note) (old : List (Option (List Note))) → map (followed_by_all notes) (map (followed_by n) old) ≡ map
    (followed_by_all (n ∷ notes)) old
all_next n notes [] = refl
all_next n notes (held ∷ old) = ap (λ h. h ∷ map (followed_by_all notes) (map (followed_by n) old)) (followed-next n notes held)
    ∙ ap (λ l. followed_by_all (n ∷ notes) held ∷ l) (all_next n notes old)

none_next : (old : List (Option (List Note))) → old ≡ map (followed_by_all []) old
none_next [] = refl
none_next (None ∷ old) = ap (λ l. None ∷ l) (none_next old)
none_next (Some before ∷ old) = ap (λ b. Some b ∷ old) (sym (append-nil before)) ∙ ap (λ l. Some (before ++ []) ∷ l) (none_next old)

-- of no audits none is left
pub none_come : {B : Type 0} (answers : Answering B) (new : List B) (told : List Told) → Tells answers [] new told → new ≡ []
none_come answers new [] t = t
none_come {B} answers new (n ∷ told) t =
    none_come answers new told (subst (λ (l : List B). Tells answers l new told) t.1 t.2)

module _ {B : Type 0} (notes : B → Option (List Note)) (answers : Answering B) where
  abbrev pub Answers : B → Told → Noted → B → Type 0
  Answers = answers_by notes answers

  -- those that are left by their answers
  left_one : (a : Noted) (n : Told) (b c : B) (others olds : List B) → notes c ≡ held_after (notes b) n.note a
      → StandIn (map notes others) (map (followed_by n.note) (map notes olds))
      → StandIn (map notes (left_by a c others)) (map (followed_by n.note) (map notes (b ∷ olds)))
  left_one Kept n b c others olds holds stand = inl (holds, stand)
  left_one Failed n b c others olds holds stand =
      StandIn-skip (map notes others) (map (followed_by n.note) (map notes olds)) (followed_by n.note (notes b)) stand
  left_one NoMemory n b c others olds holds stand =
      StandIn-skip (map notes others) (map (followed_by n.note) (map notes olds)) (followed_by n.note (notes b)) stand

  left_stand : (old new : List B) (n : Told) → TellsOne Answers old new n
      → StandIn (map notes new) (map (followed_by n.note) (map notes old))
  left_stand [] new n told = subst (λ (l : List B). StandIn (map notes l) []) (sym told) tt
  left_stand (b ∷ old) new n told =
      let gave = told.0 in
      subst (λ (l : List B). StandIn (map notes l) (map (followed_by n.note) (map notes (b ∷ old)))) (sym told.1)
      (left_one gave.answer n b gave.after gave.others old gave.own.1 (left_stand old gave.others n told.2))

  pub left_hold_all : LeftHoldAll notes answers
  left_hold_all old new [] t =
      subst (StandIn (map notes new)) (ap (map notes) t ∙ none_next (map notes old)) (StandIn-same (map notes new))
  left_hold_all old new (n ∷ told) t =
      let held = map notes old in
      let behind = followed_by_all (notes_of told) in
      subst (StandIn (map notes new)) (all_next n.note (notes_of told) held)
      (StandIn-trans (map notes new) (map behind (map notes t.0)) (map behind (map (followed_by n.note) held))
      (left_hold_all t.0 new told t.2)
      (StandIn-map behind (map notes t.0) (map (followed_by n.note) held) (left_stand old t.0 n t.1)))

  -- where each answer is that the note is kept, all are left
  all_kept : ((b : B) (n : Told) (a : Noted) (c : B) → answers b n a c → a ≡ Kept) → (old new : List B) (n : Told)
      → TellsOne Answers old new n → length new ≡ length old
  all_kept keeps [] new n told = ap length told
  all_kept keeps (b ∷ old) new n told =
      let gave = told.0 in
      ap length told.1
      ∙ ap (λ (a : Noted). length (left_by a gave.after gave.others)) (keeps b n gave.answer gave.after gave.own.0)
      ∙ ap suc (all_kept keeps old gave.others n told.2)

  pub all_stay : AllStay notes answers
  all_stay old new [] keeps t = ap length t
  all_stay old new (n ∷ told) keeps t = all_stay t.0 new told keeps t.2 ∙ all_kept keeps old t.0 n t.1
