use Rattle.hb_hpack.proofs.Taking.{symbol_taken, end_taken}
use Rattle.hb_hpack.proofs.huffman.take_word.Goals as goal

pub returns-then-found-eq-END-clause-read : goal.returns-then-found-eq-END-clause-read
returns-then-found-eq-END-clause-read c rest =
    end_taken c.args.text.now.items c.args.held c.args.found rest c.requires c.if-found-eq-END.true

pub returns-clause-read : goal.returns-clause-read
returns-clause-read c rest =
    rw (c.in_ok-push.ensures.items, c.behind.ensures.bits, c.behind.ensures.count)
    (symbol_taken c.args.text.now.items c.args.held c.args.found rest c.requires c.if-found-eq-END.false)
