use Rattle.std.proofs.Common.{length}
use Rattle.std.proofs.lemmas.Result.{err_from_is_err_and}
use Rattle.hb_hpack.specs.Encoding.{integer_of}
use Rattle.hb_hpack.proofs.Appending.{err_first}
use Rattle.hb_hpack.proofs.encoder.put_spelled.Goals as goal

pub returns-in_err-put_integer-clause-err : goal.returns-in_err-put_integer-clause-err
returns-in_err-put_integer-clause-err c =
    let p = err_from_is_err_and c.from_residual.result c.from_residual.ensures.1 in
    rw p.1 (err_first c.args.out.now.items c.put_integer.new.out.items
    (integer_of 7 c.args.bit (length c.args.bytes.now)) c.args.bytes.now c.in_err-put_integer.ensures.err)
