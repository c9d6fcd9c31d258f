use Rattle.std.proofs.Common.{◌≡◌, ◌++◌, drop}
use Rattle.std.specs.List.{flat_map}
use Rattle.hb_hpack.specs.Huffman.{word}
use Rattle.hb_hpack.specs.Fronts.{IsFrontOf}
use Rattle.hb_hpack.specs.HuffmanSteps.{huffman_of}
use Rattle.hb_hpack.specs.Partial.{written_on}
use Rattle.hb_hpack.proofs.huffman.put_text.Given as goal

-- what is written so far, and the bytes of the words from here on
abbrev pub invariant-loop-symbol : goal.invariant-loop-symbol
invariant-loop-symbol l = record {
  written : written_on l.out.items l.at (flat_map word (drop l.symbol-index l.b)) ≡ l.initial.out.items ++ huffman_of l.b;
  grown : IsFrontOf l.initial.out.items l.out.items;
}
