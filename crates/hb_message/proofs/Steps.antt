-- Reading a message goes on field by field.
use Rattle.std.proofs.Common.{◌≡◌, Result, Ok, Some, refl, sym, ◌∙◌}
use Rattle.hb_base.specs.declared.or.Or.{Or}
use Rattle.hb_base.specs.declared.or.Or.TheVariants.{Fault, NoMemory}
use Rattle.hb_wire.specs.declared.fault.WireFault.{WireFault}
use Rattle.hb_wire.specs.Field.{Unread, Content, next_in}
use Rattle.hb_wire.specs.Message.{message_of, fold_message}
use Rattle.hb_wire.proofs.Messages.{fold-field}
use Rattle.hb_base.specs.Outcome.{Fails}

-- a field was merged, and the rest makes of the new value what all made of the old
pub goes_on : {S F : Type 0} (merge : S → Content → Result S F) (wire : WireFault → F) (old new : S) (u v : Unread) (f : Content)
    (total : Result S F) → Ok (Some (f, v)) ≡ next_in u
    → merge old f ≡ Ok new → fold_message merge wire old (message_of u) ≡ total → fold_message merge wire new (message_of v) ≡ total
goes_on merge wire old new u v f total found merged so_far = sym (fold-field merge wire old u v f (sym found) ∙ rw merged refl) ∙ so_far

-- a field was refused
pub ends : {S F : Type 0} (merge : S → Content → Result S F) (wire : WireFault → F) (old : S) (u v : Unread) (f : Content) (why : Or F)
    (total : Result S F) → Ok (Some (f, v)) ≡ next_in u
    → Fails (merge old f) why → fold_message merge wire old (message_of u) ≡ total → Fails total why
ends merge wire old u v f (Fault d) total found refused so_far = sym so_far ∙ fold-field merge wire old u v f (sym found) ∙ rw refused refl
ends merge wire old u v f NoMemory total found refused so_far = tt
