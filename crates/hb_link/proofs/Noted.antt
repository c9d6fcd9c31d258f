-- Notes that are taken one behind another.
use Rattle.std.proofs.Common.{◌≡◌, inl, inr, List, [], ◌∷◌, ◌++◌, Some, None, refl, ap, sym, ◌∙◌, subst}
use Rattle.std.proofs.lemmas.List.{append_assoc, append-nil}
use Rattle.std.proofs.lemmas.List.Concat.{flat_map-append}
use Rattle.hb_base.specs.declared.note.Note.{Note}
use Rattle.hb_inbound.specs.Part.{Part, notes, note_in}
use Rattle.hb_link.specs.Noted.{Told, Takes}

-- where none is made what was told stays
pub takes_none : (told : Told) → Takes told [] told
takes_none None = refl
takes_none (Some told) = inr (ap Some (sym (append-nil told)))

-- some, and others behind them
pub takes_then : (told mid now : Told) (first more : List Note) → Takes told first mid → Takes mid more now → Takes told (first ++ more) now
takes_then None mid now first more lost behind = subst (λ (w : Told). Takes w more now) lost behind
takes_then (Some told) mid now first more (inl lost) behind = inl (subst (λ (w : Told). Takes w more now) lost behind)
takes_then (Some told) mid now first more (inr is) behind = elim (subst (λ (w : Told). Takes w more now) is behind) [
  | inl lost ↦ inl lost
  | inr all ↦ inr (all ∙ ap Some (append_assoc told first more))
]

-- those of parts, one after another
pub parts_then : (told mid now : Told) (first more : List Part) → Takes told (notes first) mid → Takes mid (notes more) now
    → Takes told (notes (first ++ more)) now
parts_then told mid now first more one behind =
    subst (λ (made : List Note). Takes told made now) (sym (flat_map-append note_in first more))
    (takes_then told mid now (notes first) (notes more) one behind)

-- and those of a part that makes none
pub takes_quiet : (told : Told) (p : Part) → note_in p ≡ [] → Takes told (notes (p ∷ [])) told
takes_quiet told p none = subst (λ (ns : List Note). Takes told (ns ++ []) told) (sym none) (takes_none told)

-- where none was lost they were told behind the others
pub told_so : (told now made : List Note) → Takes (Some told) made (Some now) → now ≡ told ++ made
told_so told now made (inl lost) = absurd (cc lost)
told_so told now made (inr is) = cc is

-- a call that has no place for notes makes none: so it is whatever was told
pub makes_none : (made : List Note) → Takes (Some []) made (Some []) → (told : Told) → Takes told made told
makes_none made takes told =
    subst (λ (ns : List Note). Takes told ns told) (told_so [] [] made takes) (takes_none told)
