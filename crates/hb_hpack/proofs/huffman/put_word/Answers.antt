use Rattle.std.proofs.Common.{◌≡◌, arith}
use Rattle.hb_hpack.specs.Huffman.{bits, word}
use Rattle.hb_hpack.proofs.CodeTable.{code_is_short, code_is_word}
use Rattle.hb_hpack.proofs.huffman.put_word.Goals as goal

pub put_bits-requires : goal.put_bits-requires
put_bits-requires c = rw c.code_at-code.ensures (code_is_short c.args.symbol (omega (arith, c.ranges.symbol)))

pub returns-clause-written : goal.returns-clause-written
returns-clause-written c =
    let is : bits c.code_at-code.result.length c.code_at-code.result.bits ≡ word c.args.symbol =
    rw c.code_at-code.ensures (code_is_word c.args.symbol (omega (arith, c.ranges.symbol))) in
    rw (← is) c.put_bits.ensures.written

pub returns-clause-err : goal.returns-clause-err
returns-clause-err c =
    let is : bits c.code_at-code.result.length c.code_at-code.result.bits ≡ word c.args.symbol =
    rw c.code_at-code.ensures (code_is_word c.args.symbol (omega (arith, c.ranges.symbol))) in
    rw (← is) c.put_bits.ensures.err
