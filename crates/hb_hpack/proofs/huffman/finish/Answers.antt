use Rattle.std.proofs.Common.{refl, sym}
use Rattle.std.proofs.lemmas.List.{append-nil}
use Rattle.hb_hpack.proofs.Writing.{byte_ends, nothing_ends}
use Rattle.hb_hpack.proofs.huffman.finish.Goals as goal

pub returns-in_ok-push-clause-ok : goal.returns-in_ok-push-clause-ok
returns-in_ok-push-clause-ok c =
    rw (c.in_ok-push.ensures.items, c.with_ones.ensures, byte_ends c.args.at.byte c.args.at.count c.if-at-ne0.true) refl

pub returns-else-at-ne0-clause-ok : goal.returns-else-at-ne0-clause-ok
returns-else-at-ne0-clause-ok c =
    rw (nothing_ends c.args.at.byte c.args.at.count c.if-at-ne0.false) (sym (append-nil c.args.out.now.items))
