use Rattle.std.proofs.Common.{◌≡◌, refl}
use Rattle.hb_hpack.specs.StaticTable.{header}
use Rattle.hb_hpack.specs.Encoding.{static_at}
use Rattle.hb_hpack.proofs.StaticIndexes.{static_at_is}
use Rattle.hb_hpack.proofs.encoder.has_value.Goals as goal

pub returns : goal.returns
returns c =
    let at : static_at c.args.place ≡ header c.static_header.result.0.now c.static_header.result.1.now =
    static_at_is c.args.place _ (rw c.from.ensures at c.static_header.ensures) in
    rw (at, c.eq.ensures) refl
