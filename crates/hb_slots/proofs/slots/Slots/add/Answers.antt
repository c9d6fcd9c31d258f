use Rattle.std.proofs.Common.{ap, sym, subst, ◌∙◌, Some}
use Rattle.std.specs.FinMap as map
use Rattle.slab.specs.Slab as slab
use Rattle.slab.specs.Slab.{Updates}
use Rattle.hb_slots.specs.Joined.{joined, IsIndex}
use Rattle.hb_slots.proofs.Joins.{joined_alike, index_alike, joined_add, index_add, on_err}
use Rattle.hb_slots.proofs.slots.Slots.add.Goals as goal

pub returns-in_err-reserve-clause-err : goal.returns-in_err-reserve-clause-err
returns-in_err-reserve-clause-err g c =
    on_err c.from_residual.result
    (joined_alike c.self.inside.index c.self.inside.cells c.self.invariant c.reserve.new.self
    (λ key. ap (λ s. slab.get s key) c.reserve.ensures.rest_kept)
    ∙ c.self.view_is)

pub returns-in_err-put-clause-err : goal.returns-in_err-put-clause-err
returns-in_err-put-clause-err g c =
    on_err c.from_residual-in_err-put.result
    (ap (λ m. joined m c.reserve.new.self) c.in_err-put.ensures.err
    ∙ joined_alike c.self.inside.index c.self.inside.cells c.self.invariant c.reserve.new.self
    (λ key. ap (λ s. slab.get s key) c.reserve.ensures.rest_kept)
    ∙ c.self.view_is)

pub invariant_of-self-2 : goal.invariant_of-self-2
invariant_of-self-2 g c =
    let cells = c.reserve.new.self in
    let is = index_alike c.self.inside.index c.self.inside.cells c.self.invariant cells (λ key. ap (λ s. slab.get s key)
    c.reserve.ensures.rest_kept) in
    let change = subst (λ key. Updates cells c.insert_reserved.new.self key (Some c.args.item))
    (c.insert_reserved.ensures.key ∙ sym c.vacant_key.ensures.value) c.insert_reserved.ensures.updates in
    subst (λ m. IsIndex m c.insert_reserved.new.self) (sym c.in_ok-put.ensures.ok)
    (index_add c.self.inside.index cells is c.insert_reserved.new.self c.args.number c.vacant_key.result c.args.item
    c.vacant_key.ensures.vacant
    change c.ranges.number.fits)

pub returns-clause-ok : goal.returns-clause-ok
returns-clause-ok g c =
    let cells = c.reserve.new.self in
    let is = index_alike c.self.inside.index c.self.inside.cells c.self.invariant cells (λ key. ap (λ s. slab.get s key)
    c.reserve.ensures.rest_kept) in
    let same = joined_alike c.self.inside.index c.self.inside.cells c.self.invariant cells (λ key. ap (λ s. slab.get s key)
    c.reserve.ensures.rest_kept) in
    let change = subst (λ key. Updates cells c.insert_reserved.new.self key (Some c.args.item))
    (c.insert_reserved.ensures.key ∙ sym c.vacant_key.ensures.value) c.insert_reserved.ensures.updates in
    ap (λ m. joined m c.insert_reserved.new.self) c.in_ok-put.ensures.ok
    ∙ joined_add c.self.inside.index cells is c.insert_reserved.new.self c.args.number c.vacant_key.result c.args.item
    c.vacant_key.ensures.vacant change
    ∙ ap (λ m. map.insert m c.args.number c.args.item) (same ∙ c.self.view_is)
