use Rattle.std.proofs.Common.{ap, sym, subst, ◌∙◌}
use Rattle.std.specs.FinMap as map
use Rattle.hb_slots.specs.Joined.{joined, IsIndex}
use Rattle.hb_slots.proofs.Joins.{at_key, none_joined, joined_remove, index_remove, joined_without, index_without}
use Rattle.hb_slots.proofs.slots.Slots.remove.Goals as goal

pub invariant_of-self : goal.invariant_of-self
invariant_of-self g c =
    subst (λ m. IsIndex m c.try_remove.new.self) (sym c.remove.ensures.rest)
    (index_remove c.self.inside.index c.self.inside.cells c.self.invariant c.try_remove.new.self c.args.number c.in-Some.key
    (sym c.in-Some.ensures.value) c.try_remove.ensures.updates)

pub invariant_of-self-in-None : goal.invariant_of-self-in-None
invariant_of-self-in-None g c =
    subst (λ m. IsIndex m c.self.inside.cells) (sym c.remove.ensures.rest)
    (index_without c.self.inside.index c.self.inside.cells c.self.invariant c.args.number (sym c.in-None.ensures.value))

pub returns-in-Some-clause-value : goal.returns-in-Some-clause-value
returns-in-Some-clause-value g c =
    c.try_remove.ensures.value
    ∙ sym (at_key c.self.inside.index c.self.inside.cells c.self.invariant c.args.number c.in-Some.key (sym c.in-Some.ensures.value))
    ∙ ap (λ m. map.get m c.args.number) c.self.view_is

pub returns-in-Some-clause-rest : goal.returns-in-Some-clause-rest
returns-in-Some-clause-rest g c =
    ap (λ m. joined m c.try_remove.new.self) c.remove.ensures.rest
    ∙ joined_remove c.self.inside.index c.self.inside.cells c.self.invariant c.try_remove.new.self c.args.number c.in-Some.key
    (sym c.in-Some.ensures.value) c.try_remove.ensures.updates
    ∙ ap (λ m. map.remove m c.args.number) c.self.view_is

pub returns-in-None-clause-value : goal.returns-in-None-clause-value
returns-in-None-clause-value g c =
    sym (none_joined c.self.inside.index c.self.inside.cells c.self.invariant c.args.number (sym c.in-None.ensures.value))
    ∙ ap (λ m. map.get m c.args.number) c.self.view_is

pub returns-in-None-clause-rest : goal.returns-in-None-clause-rest
returns-in-None-clause-rest g c =
    ap (λ m. joined m c.self.inside.cells) c.remove.ensures.rest
    ∙ joined_without c.self.inside.index c.self.inside.cells c.self.invariant c.args.number (sym c.in-None.ensures.value)
    ∙ ap (λ m. map.remove m c.args.number) c.self.view_is
