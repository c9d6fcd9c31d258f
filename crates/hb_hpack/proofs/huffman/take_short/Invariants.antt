use Rattle.std.proofs.Common.{◌≡◌, ◌≤◌, ℕ, List, Some}
use Rattle.hb_hpack.specs.Partial.{read_on}
use Rattle.hb_hpack.proofs.huffman.take_short.Given as goal

abbrev pub invariant-loop-held : goal.invariant-loop-held
invariant-loop-held l = record {
  fewer : l.held.count ≤ l.initial.held.count;
  read : (rest : List ℕ) → read_on l.text.items (Some l.held) rest ≡ read_on l.initial.text.items (Some l.initial.held) rest;
}

abbrev pub decreases-loop-held : goal.decreases-loop-held
decreases-loop-held l = l.held.count
