use Rattle.std.proofs.Common.{◌<◌, arith}
use Rattle.hb_hpack.proofs.Integers.{weight_small, weight_next, group_small}
use Rattle.hb_hpack.proofs.integer.+groups_from.Goals as goal

pub overflow_mul-value : goal.overflow_mul-value
overflow_mul-value t c =
    let g = group_small c.args.left c.args.weight c.from.result (omega (arith, c.if-left-eq0.false)) c.requires.weight
    (omega (arith, c.from.ensures)) in
    omega (arith, g)

pub overflow_add-value : goal.overflow_add-value
overflow_add-value t c =
    let g = group_small c.args.left c.args.weight c.from.result (omega (arith, c.if-left-eq0.false)) c.requires.weight
    (omega (arith, c.from.ensures)) in
    omega (arith, g)

pub overflow_mul-weight : goal.overflow_mul-weight
overflow_mul-weight t c =
    let w = weight_small c.args.left c.args.weight (omega (arith, c.if-left-eq0.false)) c.requires.weight in
    omega (arith, w)

pub groups_from-requires : goal.groups_from-requires
groups_from-requires t c =
    let some : 0 < c.args.left = omega (arith, c.if-left-eq0.false) in (
      omega (arith, c.decreases),
      (omega arith, (weight_next c.args.left c.args.weight some c.requires.left c.requires.weight, omega (arith, c.from-2.ensures))),
    )
