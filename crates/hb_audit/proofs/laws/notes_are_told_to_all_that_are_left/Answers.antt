use Rattle.std.proofs.Common.{◌≡◌, List, [], ◌∷◌, refl, ap, subst, ⊎_elim}
use Rattle.std.specs.Prelude.{⊤, Option, None, Some, map}
use Rattle.hb_base.specs.declared.note.Note.{Note}
use Rattle.hb_audit.specs.declared.audit.Noted.{Noted}
use Rattle.hb_audit.specs.declared.audit.Noted.TheVariants.{Kept, Failed, NoMemory}
use Rattle.hb_audit.specs.Held.{held_after}
use Rattle.hb_audit.specs.Laws.{StandIn, followed_by_all}
use Rattle.hb_audit.specs.Refused.{first, second, any_answer, Refuses}
use Rattle.hb_audit.specs.Tells.{Gave, Tells}
use Rattle.hb_audit.specs.Told.{Told, plain, notes_of}
use Rattle.hb_audit.proofs.LeftLemmas.{left_hold_all}
use Rattle.hb_audit.proofs.laws.notes_are_told_to_all_that_are_left.Goals as goal

abbrev Held : Type 0
Held = Option (List Note)

-- what such an audit gave
abbrev gave : (held : Held) (n : Note) (a : Noted) (others : List Held) → Gave any_answer held (plain n)
gave held n a others = record { answer = a; after = held_after held n a; own = (tt, refl); others = others }

-- those that are left of such audits hold all
left_so : (old new : List Held) (told : List Told) → Tells any_answer old new told
    → StandIn (map (λ (h : Held). h) new) (map (followed_by_all (notes_of told)) (map (λ (h : Held). h) old))
left_so = left_hold_all (λ (h : Held). h) (λ _ _ _ _. ⊤)

-- the notes of what is told plainly
plain_notes : (notes : List Note) → notes_of (map plain notes) ≡ notes
plain_notes [] = refl
plain_notes (n ∷ notes) = ap (λ (l : List Note). n ∷ l) (plain_notes notes)

-- one that holds others
refused : (told holds : List Note) → (Some holds ≡ Some told → ⊥) → Refuses told holds
refused told holds other t =
    ⊎_elim {A = (Some holds ≡ Some told) × ⊤} {B = ⊥} (λ h. other h.0) (λ none. none)
    (subst (λ (notes : List Note). StandIn (Some holds ∷ []) (Some notes ∷ [])) (plain_notes told)
    (left_so (Some [] ∷ []) (Some holds ∷ []) (map plain told) t))

pub returns-clause-one : goal.returns-clause-one
returns-clause-one c = (
  None ∷ Some (first ∷ []) ∷ Some (first ∷ []) ∷ [],
  (
    gave None first Kept (Some (first ∷ []) ∷ Some (first ∷ []) ∷ []),
    refl,
    (gave (Some []) first Kept (Some (first ∷ []) ∷ []), refl, (gave (Some []) first Kept [], refl, refl)),
  ),
  (
    None ∷ Some (first ∷ second ∷ []) ∷ [],
    (
      gave None second Kept (Some (first ∷ second ∷ []) ∷ []),
      refl,
      (gave (Some (first ∷ [])) second Kept [], refl, (gave (Some (first ∷ [])) second Failed [], refl, refl)),
    ),
    refl,
  ),
)

pub returns-clause-all : goal.returns-clause-all
returns-clause-all c = ([], (gave None first Failed [], refl, (gave (Some []) first NoMemory [], refl, refl)), ([], refl, refl))

pub returns-clause-first : goal.returns-clause-first
returns-clause-first c = refused (first ∷ second ∷ []) (second ∷ []) (λ same. absurd cc)

pub returns-clause-last : goal.returns-clause-last
returns-clause-last c = refused (first ∷ second ∷ []) (first ∷ []) (λ same. absurd cc)

pub returns-clause-twice : goal.returns-clause-twice
returns-clause-twice c = refused (first ∷ []) (first ∷ first ∷ []) (λ same. absurd cc)

pub returns-clause-order : goal.returns-clause-order
returns-clause-order c = refused (first ∷ second ∷ []) (second ∷ first ∷ []) (λ same. absurd cc)

pub returns-clause-more : goal.returns-clause-more
returns-clause-more c = refused (first ∷ []) (first ∷ second ∷ []) (λ same. absurd cc)

pub returns-clause-old : goal.returns-clause-old
returns-clause-old c = λ t.
    ⊎_elim {A = (Some (second ∷ []) ≡ Some (first ∷ second ∷ [])) × ⊤} {B = ⊥} (λ h. let same = h.0 in absurd cc) (λ none. none)
    (left_so (Some (first ∷ []) ∷ []) (Some (second ∷ []) ∷ []) (plain second ∷ []) t)

pub returns-clause-places : goal.returns-clause-places
returns-clause-places c = λ t.
    let first_told : Held = Some (first ∷ []) in
    ⊎_elim {A = (None ≡ first_told) × StandIn (first_told ∷ []) (None ∷ [])} {B = StandIn (None ∷ first_told ∷ []) (None ∷ [])}
    (λ h. let same = h.0 in absurd cc)
    (λ h. ⊎_elim {A = (None ≡ None) × StandIn (first_told ∷ []) []} {B = ⊥} (λ both. both.1) (λ none. none) h)
    (left_so (Some [] ∷ None ∷ []) (None ∷ first_told ∷ []) (plain first ∷ []) t)

pub returns-clause-new : goal.returns-clause-new
returns-clause-new c = λ t. left_so [] (None ∷ []) (plain first ∷ []) t
