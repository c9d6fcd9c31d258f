use Rattle.std.proofs.Common.{refl, ap, ◌∙◌}
use Rattle.std.specs.Ordering.{nat_cmp}
use Rattle.std.specs.FinMap as map
use Rattle.hb_map.specs.Places.{numbered}
use Rattle.hb_map.proofs.Numbered.{made_set, rising_set, made_insert, rising_insert}
use Rattle.hb_map.proofs.by_id.ById.put.Goals as goal

pub invariant_of-self : goal.invariant_of-self
invariant_of-self g c =
    let is = rw c.deref.ensures.value at c.in-Ok.ensures.found in
    rising_set g.K.Key.number c.self.inside.items.items c.self.invariant _ _ is c.args.id c.args.item refl

pub invariant_of-self-in-Err : goal.invariant_of-self-in-Err
invariant_of-self-in-Err g c =
    let gap = rw c.deref.ensures.value at c.in-Err.ensures.absent in
    rw c.in_ok-insert-in-Err.ensures.items
    (rising_insert g.K.Key.number c.self.inside.items.items _ _ gap c.args.id c.args.item refl c.self.invariant)

pub returns-in-Ok-clause-ok : goal.returns-in-Ok-clause-ok
returns-in-Ok-clause-ok g c =
    let number = g.K.Key.number in
    let is = rw c.deref.ensures.value at c.in-Ok.ensures.found in
    made_set number c.self.inside.items.items c.self.invariant _ _ is c.args.id c.args.item refl
    ∙ ap (λ m. map.insert m (number c.args.id) c.args.item) c.self.view_is

pub returns-in_ok-insert-in-Err-clause-ok : goal.returns-in_ok-insert-in-Err-clause-ok
returns-in_ok-insert-in-Err-clause-ok g c =
    let number = g.K.Key.number in
    let gap = rw c.deref.ensures.value at c.in-Err.ensures.absent in
    ap (λ l. map.from_entries {R = nat_cmp} (numbered number l)) c.in_ok-insert-in-Err.ensures.items
    ∙ made_insert number c.self.inside.items.items _ _ gap c.args.id c.args.item refl
    ∙ ap (λ m. map.insert m (number c.args.id) c.args.item) c.self.view_is
