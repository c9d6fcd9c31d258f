use Rattle.std.proofs.Common.{◌<◌, ◌-◌, arith}
use Rattle.hb_wire.proofs.Powers.{low_fits, both_fit, below_word}
use Rattle.hb_wire.proofs.varint.+read_varint.Goals as goal

pub returns-then-low-lt128-clause-small : goal.returns-then-low-lt128-clause-small
returns-then-low-lt128-clause-small t c = low_fits c.args.index c.from-low.result (omega arith) c.if-low-lt128.true

pub overflow_mul-result : goal.overflow_mul-result
overflow_mul-result t c =
    let all = below_word c.args.index _ (both_fit c.args.index 0 c.in_ok-high.high.value (omega arith) (omega arith)
    c.in_ok-high.ensures.small) in
    omega (arith, all)

pub overflow_add-result : goal.overflow_add-result
overflow_add-result t c =
    let low : c.from-low.result - 128 < 128 = omega arith in
    let all = below_word c.args.index _ (both_fit c.args.index (c.from-low.result - 128) c.in_ok-high.high.value (omega arith) low
    c.in_ok-high.ensures.small) in
    omega (arith, all)

pub returns-clause-small : goal.returns-clause-small
returns-clause-small t c =
    let low : c.from-low.result - 128 < 128 = omega arith in
    both_fit c.args.index (c.from-low.result - 128) c.in_ok-high.high.value (omega arith) low c.in_ok-high.ensures.small
