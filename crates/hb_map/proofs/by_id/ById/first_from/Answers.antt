use Rattle.std.proofs.Common.{◌<◌, Some, None, IsSome, length, ap, sym, subst, ◌∙◌, arith}
use Rattle.std.specs.FinMap as map
use Rattle.std.proofs.lemmas.List.{length-map, get_or-map}
use Rattle.hb_map.specs.Keyed.{IsFirstFrom}
use Rattle.hb_map.specs.Places.{numbered}
use Rattle.hb_map.proofs.Numbered.{entry}
use Rattle.hb_map.proofs.Places.{is_there, first_behind, none_behind}
use Rattle.hb_map.proofs.by_id.ById.first_from.Goals as goal

pub returns-in-Ok : goal.returns-in-Ok
returns-in-Ok g c =
    let number = g.K.Key.number in
    let is = rw c.deref.ensures.value at c.in-Ok.ensures.found in (
      omega arith,
      subst (λ m. IsSome (map.get m (number c.args.id))) c.self.view_is
          (is_there (numbered number c.self.inside.items.items) c.self.invariant _ _ is),
      λ key above below. absurd (omega arith),
    )

pub returns-in-Err : goal.returns-in-Err
returns-in-Err g c =
    let number = g.K.Key.number in
    let items = c.self.inside.items.items in
    let l = numbered number items in
    let e = c.index.result.now in
    let gap = rw c.deref.ensures.value at c.in-Err.ensures.absent in
    let in_range : c.in-Err.at < length items = omega (
      arith,
      c.len.ensures,
      c.deref.ensures.len,
      ap length c.deref.ensures.value,
      c.if-at-len.true,
    ) in
    subst (λ m. IsFirstFrom m (number c.args.id) (Some (number e.0))) c.self.view_is
    (first_behind l c.self.invariant (number c.args.id) c.in-Err.at gap (entry number e)
    (omega (arith, in_range, length-map items (entry number)))
    (λ d. get_or-map (entry number) items c.in-Err.at e d in_range ∙ sym (ap (entry number) c.index.ensures)))

pub returns-in-Err-2 : goal.returns-in-Err-2
returns-in-Err-2 g c =
    let number = g.K.Key.number in
    let items = c.self.inside.items.items in
    let gap = rw c.deref.ensures.value at c.in-Err.ensures.absent in
    subst (λ m. IsFirstFrom m (number c.args.id) None) c.self.view_is
    (none_behind (numbered number items) c.self.invariant (number c.args.id) c.in-Err.at gap
    (omega (
      arith,
      c.len.ensures,
      c.deref.ensures.len,
      ap length c.deref.ensures.value,
      c.if-at-len.false,
      length-map items (entry number),
    )))
