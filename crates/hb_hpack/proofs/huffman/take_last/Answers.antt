use Rattle.std.proofs.Common.{◌%◌, ◌^◌, ◌∙◌, []}
use Rattle.hb_hpack.specs.Partial.{HasNoWord}
use Rattle.hb_hpack.proofs.Taking.{ends_text}
use Rattle.hb_hpack.proofs.huffman.take_last.Goals as goal

pub returns : goal.returns
returns c =
    let none : HasNoWord c.loop-found.held = c.in_default.ensures in
    rw c.is_padding.ensures (ends_text c.loop-found.text.items _
    (c.loop-found.held.bits % 2 ^ c.loop-found.held.count) c.loop-found.held.count (none.goes_on []) ∙ c.loop-found.invariant)
