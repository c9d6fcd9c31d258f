-- What is left of audits once several notes were told to them.
use Rattle.std.specs.Prelude.{◌≡◌, ◌⊎◌, ⊤, List, [], ◌∷◌, ◌++◌, length, map, Option}
use Rattle.std.specs.Option.{option_map}
use Rattle.hb_base.specs.declared.note.Note.{Note}
use Rattle.hb_audit.specs.declared.audit.Noted.{Noted}
use Rattle.hb_audit.specs.declared.audit.Noted.TheVariants.{Kept}
use Rattle.hb_audit.specs.HeldBy.{answers_by}
use Rattle.hb_audit.specs.Tells.{Answering, Tells}
use Rattle.hb_audit.specs.Told.{Told, notes_of}

-- the first list's items stand in the second one, in their order, with others between them
abbrev pub StandIn : {A : Type 0} → List A → List A → Type 0
StandIn [] ys = ⊤
StandIn (x ∷ xs) [] = ⊥
StandIn (x ∷ xs) (y ∷ ys) = ((x ≡ y) × StandIn xs ys) ⊎ StandIn (x ∷ xs) ys

-- what an audit held, followed by all of these notes, where it tells its notes
abbrev pub followed_by_all : List Note → Option (List Note) → Option (List Note)
followed_by_all notes held = option_map (λ before. before ++ notes) held

module _ {B : Type 0} (notes : B → Option (List Note)) (answers : Answering B) where
  -- each audit that is left was one before, in the same order, and holds what it held, followed by all notes that were told
  abbrev pub LeftHoldAll : Type 0
  LeftHoldAll = (old new : List B) (told : List Told) → Tells (answers_by notes answers) old new told
      → StandIn (map notes new) (map (followed_by_all (notes_of told)) (map notes old))

  -- where each answer that an audit may give is that it keeps the note, all are left
  abbrev pub AllStay : Type 0
  AllStay = (old new : List B) (told : List Told)
      → ((b : B) (t : Told) (answer : Noted) (after : B) → answers b t answer after → answer ≡ Kept)
      → Tells (answers_by notes answers) old new told → length new ≡ length old
