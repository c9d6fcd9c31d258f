-- What is left of audits once notes were told to each of them, each with its reason. What one answers, and what it is after, is its own.
use Rattle.std.specs.Prelude.{◌≡◌, List, [], ◌∷◌}
use Rattle.hb_audit.specs.declared.audit.Noted.{Noted}
use Rattle.hb_audit.specs.declared.audit.Noted.TheVariants.{Kept, Failed, NoMemory}
use Rattle.hb_audit.specs.Told.{Told}

-- one that kept a note is left, as it is after, in front of these others; one that didn't isn't
abbrev pub left_by : {B : Type 0} → Noted → B → List B → List B
left_by Kept b others = b ∷ others
left_by Failed b others = others
left_by NoMemory b others = others

-- what audits of a type answer to what they are told, each as it stands, and what it is after that
abbrev pub Answering : Type 0 → Type 1
Answering B = B → Told → Noted → B → Type 0

module _ {B : Type 0} (answers : Answering B) where
  -- what the first one gave, and of the others those that are left
  pub record Gave (b : B) (t : Told) : Type 0 where
    pub answer : Noted
    pub after : B
    pub own : answers b t answer after
    pub others : List B

  -- each audit was told this, in order, and gave an answer of its own; those that kept it are left
  abbrev pub TellsOne : List B → List B → Told → Type 0
  TellsOne [] left t = left ≡ []
  TellsOne (b ∷ audits) left t = (gave : Gave b t) × (left ≡ left_by gave.answer gave.after gave.others) × TellsOne audits gave.others t

  -- these were told one after the other, each to those that were left
  abbrev pub Tells : List B → List B → List Told → Type 0
  Tells old new [] = new ≡ old
  Tells old new (t ∷ told) = (between : List B) × TellsOne old between t × Tells between new told
