use Rattle.std.proofs.Common.{ap, sym, ◌∙◌}
use Rattle.std.specs.Ordering.{nat_cmp}
use Rattle.std.specs.FinMap as map
use Rattle.hb_map.specs.Places.{numbered}
use Rattle.hb_map.proofs.Numbered.{get_at, made_remove, rising_remove}
use Rattle.hb_map.proofs.Places.{get_in_gap, made_same}
use Rattle.hb_map.proofs.by_id.ById.remove.Goals as goal

pub invariant_of-self : goal.invariant_of-self
invariant_of-self g c =
    let is = rw c.deref.ensures.value at c.in-Ok.ensures.found in
    rw c.remove.ensures.items (rising_remove g.K.Key.number c.self.inside.items.items c.self.invariant _ _ is)

pub returns-in-Ok-clause-value : goal.returns-in-Ok-clause-value
returns-in-Ok-clause-value g c =
    let number = g.K.Key.number in
    let is = rw c.deref.ensures.value at c.in-Ok.ensures.found in
    sym (get_at number c.self.inside.items.items c.self.invariant _ _ is c.remove.result c.remove.ensures.value)
    ∙ ap (λ m. map.get m (number c.args.id)) c.self.view_is

pub returns-in-Ok-clause-rest : goal.returns-in-Ok-clause-rest
returns-in-Ok-clause-rest g c =
    let number = g.K.Key.number in
    let is = rw c.deref.ensures.value at c.in-Ok.ensures.found in
    ap (λ l. map.from_entries {R = nat_cmp} (numbered number l)) c.remove.ensures.items
    ∙ made_remove number c.self.inside.items.items c.self.invariant _ _ is
    ∙ ap (λ m. map.remove m (number c.args.id)) c.self.view_is

pub returns-in-Err-clause-value : goal.returns-in-Err-clause-value
returns-in-Err-clause-value g c =
    let number = g.K.Key.number in
    let gap = rw c.deref.ensures.value at c.in-Err.ensures.absent in
    sym (get_in_gap (numbered number c.self.inside.items.items) (number c.args.id) _ gap)
    ∙ ap (λ m. map.get m (number c.args.id)) c.self.view_is

pub returns-in-Err-clause-rest : goal.returns-in-Err-clause-rest
returns-in-Err-clause-rest g c =
    let number = g.K.Key.number in
    let gap = rw c.deref.ensures.value at c.in-Err.ensures.absent in
    sym c.self.view_is ∙ made_same (numbered number c.self.inside.items.items) (number c.args.id) _ gap
    ∙ ap (λ m. map.remove m (number c.args.id)) c.self.view_is
