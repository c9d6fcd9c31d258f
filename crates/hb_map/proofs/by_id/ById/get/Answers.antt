use Rattle.std.proofs.Common.{ap, sym, ◌∙◌}
use Rattle.std.specs.FinMap as map
use Rattle.hb_map.proofs.Numbered.{get_at}
use Rattle.hb_map.proofs.Places.{get_in_gap}
use Rattle.hb_map.specs.Places.{numbered}
use Rattle.hb_map.proofs.by_id.ById.get.Goals as goal

pub returns-in-Ok : goal.returns-in-Ok
returns-in-Ok g c =
    let number = g.K.Key.number in
    let is = rw c.deref.ensures.value at c.in-Ok.ensures.found in
    sym (get_at number c.self.inside.items.items c.self.invariant _ _ is c.index.result.now c.index.ensures)
    ∙ ap (λ m. map.get m (number c.args.id)) c.self.view_is

pub returns-in-Err : goal.returns-in-Err
returns-in-Err g c =
    let number = g.K.Key.number in
    let gap = rw c.deref.ensures.value at c.in-Err.ensures.absent in
    sym (get_in_gap (numbered number c.self.inside.items.items) (number c.args.id) _ gap)
    ∙ ap (λ m. map.get m (number c.args.id)) c.self.view_is
