use Rattle.std.proofs.Common.{◌+◌, ◌*◌, [], ◌∷◌, append_assoc, refl}
use Rattle.hb_hpack.specs.HuffmanSteps.{bytes_from}
use Rattle.hb_hpack.proofs.Writing.{byte_done, byte_goes_on}
use Rattle.hb_hpack.proofs.huffman.put_bit.Goals as goal

pub returns-then-at-eq7-clause-written : goal.returns-then-at-eq7-clause-written
returns-then-at-eq7-clause-written c rest =
    rw (c.if-at-eq7.true, c.in_ok-push.ensures.items, c.new.ensures.byte, c.new.ensures.count, byte_done)
    (append_assoc c.args.out.now.items ((2 * c.args.at.byte + c.args.bit) ∷ []) (bytes_from 0 0 rest))

pub returns-clause-written : goal.returns-clause-written
returns-clause-written c rest =
    let ne = c.if-at-eq7.false in
    rw (byte_goes_on c.args.at.byte c.args.at.count c.args.bit rest ne) refl
