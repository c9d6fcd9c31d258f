use Rattle.std.proofs.Common.{◌∙◌, arith}
use Rattle.hb_hpack.proofs.Taking.{symbol_taken}
use Rattle.hb_hpack.proofs.huffman.take_short.Goals as goal

pub loop-held-preserved : goal.loop-held-preserved
loop-held-preserved c = record {
  fewer = omega (arith, c.loop-held.invariant.fewer, c.behind-held.ensures.count);
  read = λ rest. rw (c.in_ok-push.ensures.items, c.behind-held.ensures.bits, c.behind-held.ensures.count)
      (symbol_taken c.loop-held.text.items c.loop-held.held c.in-Some.found rest c.in-Some.ensures.front
      (λ e. omega (arith, c.in-Some.ensures.octet)) ∙ c.loop-held.invariant.read rest);
}
