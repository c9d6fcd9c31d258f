use Rattle.std.proofs.Common.{◌∙◌, sym, ap}
use Rattle.hb_hpack.specs.Table.{Table}
use Rattle.hb_hpack.specs.Reader.{block_at}
use Rattle.hb_hpack.proofs.Blocks.{block_stops, block_goes_on}
use Rattle.hb_hpack.proofs.decoder.Decoder.read.Goals as goal

pub returns-in-Ok : goal.returns-in-Ok
returns-in-Ok c =
    let same = ap (λ (t : Table). block_at t c.args.b.now) (sym c.self.view_is) in
    rw (same, block_goes_on c.self.inside.table c.updates_at.new.table c.args.b.now c.in-Ok.rest.now c.in-Ok.ensures) c.headers_at.ensures

pub returns-in-Err : goal.returns-in-Err
returns-in-Err c =
    ap (λ (t : Table). block_at t c.args.b.now) (sym c.self.view_is)
    ∙ block_stops c.self.inside.table c.args.b.now c.in-Err.stop c.in-Err.ensures
