use Rattle.std.proofs.Common.{◌≡◌, ◌-◌, ◌<◌, ◌++◌, arith}
use Rattle.hb_hpack.specs.Huffman.{bits, word}
use Rattle.hb_hpack.proofs.CodeTable.{symbols_small}
use Rattle.hb_hpack.proofs.Taking.{nothing_past, open_of, meets_length, fits_32, row_begins, past_is_short, mod_small, held_begins, held_open}
use Rattle.hb_hpack.proofs.huffman.whole_word.Goals as goal

pub loop-length-init : goal.loop-length-init
loop-length-init c = nothing_past c.args.held.count c.number-number.result
    (rw c.number-number.ensures (mod_small c.args.held.bits c.args.held.count))

pub returns-then-held-length : goal.returns-then-held-length
returns-then-held-length c =
    let p = c.loop-length.invariant in
    let within = p.within in
    let short : c.loop-length.length - 1 < 30 = omega (arith, c.loop-length-test.true) in
    let same : c.args.held.count ≡ c.loop-length.length - 1 = omega (arith, c.if-held-length.true) in
    let begun = open_of c.args.held.count c.number-number.result (c.loop-length.length - 1) p short same in
    record { few = omega arith; goes_on = λ rest. held_open c.args.held.count c.args.held.bits rest (rw c.number-number.ensures at begun) }

pub overflow_cast-code : goal.overflow_cast-code
overflow_cast-code c =
    let m = meets_length c.args.held.count c.number-number.result c.loop-length.length c.loop-length.invariant (omega arith)
    (omega arith) (omega arith) in
    omega (arith, fits_32 _ c.loop-length.length m.below (omega arith))

pub overflow_sub-code-then-code-row : goal.overflow_sub-code-then-code-row
overflow_sub-code-then-code-row c =
    let m = meets_length c.args.held.count c.number-number.result c.loop-length.length c.loop-length.invariant (omega arith)
    (omega arith) (omega arith) in
    rw c.row_at-row.ensures m.first

pub symbol_at-symbol-requires : goal.symbol_at-symbol-requires
symbol_at-symbol-requires c =
    let m = meets_length c.args.held.count c.number-number.result c.loop-length.length c.loop-length.invariant (omega arith)
    (omega arith) (omega arith) in
    let places = m.places in
    let first = m.first in
    let limit = rw c.row_at-row.ensures at c.if-code-row.true in
    rw (c.from.ensures, c.row_at-row.ensures) (omega arith)

pub returns-then-code-row : goal.returns-then-code-row
returns-then-code-row c =
    let m = meets_length c.args.held.count c.number-number.result c.loop-length.length c.loop-length.invariant (omega arith)
    (omega arith) (omega arith) in
    let places = m.places in
    let first = m.first in
    let limit = rw c.row_at-row.ensures at c.if-code-row.true in
    let begin : bits c.args.held.count c.number-number.result
    ≡ word c.symbol_at-symbol.result ++ bits (c.args.held.count - c.loop-length.length) c.number-number.result =
    rw (c.symbol_at-symbol.ensures, c.from.ensures, c.row_at-row.ensures)
    (row_begins c.args.held.count c.number-number.result c.loop-length.length (omega arith) (omega arith) m limit) in
    record {
      small = rw (c.symbol_at-symbol.ensures, c.from.ensures, c.row_at-row.ensures) (symbols_small _ (omega arith));
      some = omega arith;
      within = omega arith;
      begin = held_begins c.args.held.count c.args.held.bits c.loop-length.length c.symbol_at-symbol.result (omega arith)
          (rw c.number-number.ensures at begin);
    }

pub returns : goal.returns
returns c =
    let p = c.loop-length.invariant in
    let last : c.loop-length.length ≡ 31 = omega arith in
    let short = past_is_short c.args.held.count c.number-number.result (c.loop-length.length - 1) p (omega arith) in
    absurd (omega arith)
