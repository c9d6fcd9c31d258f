use Rattle.std.proofs.Common.{sym, subst, ap, ◌∙◌}
use Rattle.hb_slots.specs.Joined.{joined, IsIndex}
use Rattle.hb_slots.proofs.Joins.{joined_empty, index_empty}
use Rattle.hb_slots.proofs.slots.Slots.new.Goals as goal

pub invariant_of-result : goal.invariant_of-result
invariant_of-result g c = subst (λ m. IsIndex m c.new-2.result) (sym c.new.ensures) (index_empty c.new-2.result)

pub returns : goal.returns
returns g c = ap (λ m. joined m c.new-2.result) c.new.ensures ∙ joined_empty c.new-2.result
