use Rattle.std.proofs.Common.{◌≡◌, ◌<◌, drop, Some}
use Rattle.hb_hpack.specs.Huffman.{bits_of}
use Rattle.hb_hpack.specs.HuffmanSteps.{text_of}
use Rattle.hb_hpack.specs.Partial.{read_on}
use Rattle.hb_hpack.proofs.huffman.text_of.Given as goal

-- what was read so far, and what the bytes from here on give
abbrev pub invariant-loop-byte : goal.invariant-loop-byte
invariant-loop-byte l = record {
  few : l.held.count < 56;
  read : read_on l.text.items (Some l.held) (bits_of (drop l.byte-index l.b)) ≡ text_of l.b;
}
