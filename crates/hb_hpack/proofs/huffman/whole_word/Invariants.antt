use Rattle.std.proofs.Common.{◌-◌}
use Rattle.hb_hpack.proofs.Taking.{IsPast}
use Rattle.hb_hpack.proofs.huffman.whole_word.Given as goal

-- no shorter word is in front
abbrev pub invariant-loop-length : goal.invariant-loop-length
invariant-loop-length l = IsPast l.held.count l.number (l.length - 1)
