use Rattle.std.proofs.Common.{◌-◌, ◌/◌, ◌%◌, ◌<◌, ◌^◌, arith}
use Rattle.hb_hpack.specs.CodeTables.{short_at}
use Rattle.hb_hpack.proofs.CodeTable.{IsShort, short_is}
use Rattle.hb_hpack.proofs.Taking.{short_begins}
use Rattle.hb_hpack.proofs.huffman.short_word.Goals as goal

pub returns-else-found-eq0 : goal.returns-else-found-eq0
returns-else-found-eq0 c =
    let front : c.args.held.bits / 2 ^ (c.args.held.count - 8) % 256 < 256 = omega arith in
    let some : 0 < c.short_at-found.result.length = omega (arith, c.if-found-eq0.false) in
    let some' : 0 < (short_at (c.args.held.bits / 2 ^ (c.args.held.count - 8) % 256)).length = rw c.short_at-found.ensures at some in
    let short : IsShort c.short_at-found.result.length c.short_at-found.result.symbol
    (c.args.held.bits / 2 ^ (c.args.held.count - 8) % 256) = rw c.short_at-found.ensures (short_is _ front some') in
    let within = short.within in
    let small = short.small in
    record {
      front = record {
        small = omega arith;
        some = some;
        within = omega arith;
        begin = short_begins c.args.held.count c.args.held.bits c.short_at-found.result.length c.short_at-found.result.symbol
            (omega arith) short;
      };
      octet = small;
    }
