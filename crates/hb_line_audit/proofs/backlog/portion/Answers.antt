use Rattle.std.proofs.Common.{sym, arith}
use Rattle.std.proofs.lemmas.List.{length-take-le}
use Rattle.hb_line_audit.proofs.backlog.portion.Goals as goal

pub slice_bounds-whole_lines-end : goal.slice_bounds-whole_lines-end
slice_bounds-whole_lines-end c = let more = c.if-bytes-le-MOST.false in sym (length-take-le 4096 c.args.bytes.now (omega arith))

pub returns-in_default-clause-within : goal.returns-in_default-clause-within
returns-in_default-clause-within c =
    let more = c.if-bytes-le-MOST.false in
    let head = length-take-le 4096 c.args.bytes.now (omega arith) in
    let within = c.whole_lines.ensures.within in
    omega arith

pub returns-in_default-clause-most : goal.returns-in_default-clause-most
returns-in_default-clause-most c =
    let more = c.if-bytes-le-MOST.false in
    let head = length-take-le 4096 c.args.bytes.now (omega arith) in
    let within = c.whole_lines.ensures.within in
    omega arith
