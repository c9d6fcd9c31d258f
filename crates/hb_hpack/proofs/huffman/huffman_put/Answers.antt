use Rattle.std.proofs.Common.{arith}
use Rattle.hb_hpack.proofs.Writing.{is_spelled, octets_of}
use Rattle.hb_hpack.proofs.Reading.{spelled_is_read}
use Rattle.hb_hpack.proofs.huffman.huffman_put.Goals as goal

pub returns-clause-spelled : goal.returns-clause-spelled
returns-clause-spelled c = is_spelled c.args.b.now (octets_of c.args.b.now (λ i. omega (arith, c.type_inv.b i)))

pub returns-clause-read : goal.returns-clause-read
returns-clause-read c = spelled_is_read _ _ (is_spelled c.args.b.now (octets_of c.args.b.now (λ i. omega (arith, c.type_inv.b i))))
