use Rattle.std.proofs.Common.{sym, subst}
use Rattle.hb_counted.specs.Classes.{in_none}
use Rattle.hb_counted.specs.Kept.{IsKept}
use Rattle.hb_counted.proofs.Keeping.{none_kept}
use Rattle.hb_counted.proofs.counted.Counted.new.Goals as goal

pub invariant_of-result : goal.invariant_of-result
invariant_of-result g c =
    let classes = g.T.Classed.classes_of in
    let starts = c.none-2.result in
    subst (λ m. IsKept classes (record { counts = c.none.result; starts = starts; lent = 0; was = c.none-3.result }) m) (sym c.new.ensures)
    (subst (λ was. IsKept classes (record { counts = c.none.result; starts = starts; lent = 0; was = was }) _) (sym c.none-3.ensures)
    (subst (λ counts. IsKept classes (record { counts = counts; starts = starts; lent = 0; was = in_none }) _) (sym c.none.ensures)
    (none_kept classes starts)))
