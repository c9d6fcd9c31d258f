use Rattle.std.proofs.Common.{◌≡◌, length, take, ap, arith, length-take}
use Rattle.hb_base.proofs.ShortLemmas.{filled}
use Rattle.hb_base.proofs.short.Short.fill.Goals as goal

pub returns-clause-after : goal.returns-clause-after
returns-clause-after c =
    let len : length (take c.self.inside.known c.self.inside.bytes) ≡ c.self.inside.known =
    omega (arith, c.self.invariant, length-take c.self.inside.known c.self.inside.bytes) in
    let written = rw c.from-known.ensures at c.write_at.ensures in
    let least = rw c.from-known.ensures at c.min-n.ensures in
    rw (← c.self.view_is)
    (filled c.self.inside.bytes c.write_at.new.bytes c.args.piece.now c.split_at.result.0.now c.args.most c.self.inside.known c.min-n.result
    len (omega (arith, len, ap length c.self.view_is, c.requires.short)) written c.split_at.ensures.front least)
