use Rattle.std.proofs.Common.{◌≡◌, refl, sym}
use Rattle.hb_hpack.specs.StaticTable.{header}
use Rattle.hb_hpack.specs.Encoding.{static_at}
use Rattle.hb_hpack.proofs.StaticIndexes.{static_at_is, other_length}
use Rattle.hb_hpack.proofs.encoder.has_name.Goals as goal

pub returns-then-name-from : goal.returns-then-name-from
returns-then-name-from c =
    sym (other_length c.args.place c.args.name.now c.requires (rw (c.from-2.ensures, c.from.ensures) at c.if-name-from.true))

pub returns : goal.returns
returns c =
    let at : static_at c.args.place ≡ header c.static_header.result.0.now c.static_header.result.1.now =
    static_at_is c.args.place _ (rw c.from-3.ensures at c.static_header.ensures) in
    rw (at, c.eq.ensures) refl
