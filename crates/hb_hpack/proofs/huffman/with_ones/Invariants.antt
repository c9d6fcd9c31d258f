use Rattle.std.proofs.Common.{◌≡◌, ◌-◌, ◌<◌, ◌^◌}
use Rattle.hb_hpack.specs.HuffmanSteps.{with_ones}
use Rattle.hb_hpack.proofs.huffman.with_ones.Given as goal

abbrev pub invariant-loop : goal.invariant-loop
invariant-loop l = record {
  below : l.byte < 2 ^ l.counter;
  same : with_ones (8 - l.counter) l.byte ≡ with_ones (8 - l.fn.at.count) l.fn.at.byte;
}
