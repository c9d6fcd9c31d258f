use Rattle.std.proofs.Common.{◌∙◌, sym, arith}
use Rattle.hb_hpack.proofs.Writing.{small_byte, next_below, ones_more, ones_done}
use Rattle.hb_hpack.proofs.huffman.with_ones.Goals as goal

pub overflow_mul-byte : goal.overflow_mul-byte
overflow_mul-byte c = omega (arith, small_byte c.loop.byte c.loop.counter c.loop.invariant.below c.loop-test.true)

pub overflow_add-byte : goal.overflow_add-byte
overflow_add-byte c = omega (arith, small_byte c.loop.byte c.loop.counter c.loop.invariant.below c.loop-test.true)

pub loop-preserved : goal.loop-preserved
loop-preserved c = record {
  below = next_below c.loop.byte c.loop.counter c.loop.invariant.below;
  same = sym (ones_more c.loop.counter c.loop.byte c.loop-test.true) ∙ c.loop.invariant.same;
}

pub returns : goal.returns
returns c = sym (ones_done c.loop.counter c.loop.byte c.loop-test.false) ∙ c.loop.invariant.same
