use Rattle.std.proofs.Common.{◌≡◌, Some, []}
use Rattle.hb_hpack.specs.Partial.{read_on}
use Rattle.hb_hpack.proofs.huffman.take_last.Given as goal

abbrev pub invariant-loop-found : goal.invariant-loop-found
invariant-loop-found l = read_on l.text.items (Some l.held) [] ≡ read_on l.initial.text.items (Some l.initial.held) []

abbrev pub decreases-loop-found : goal.decreases-loop-found
decreases-loop-found l = l.held.count
