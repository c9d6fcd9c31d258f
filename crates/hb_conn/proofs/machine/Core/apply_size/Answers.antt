use Rattle.std.proofs.Common.{sym, ◌∙◌}
use Rattle.hb_conn.proofs.Pending.{known_fits, put_off}
use Rattle.hb_conn.proofs.machine.Core.apply_size.Goals as goal

pub returns-then-allows-clause-after : goal.returns-then-allows-clause-after
returns-then-allows-clause-after c =
    let self = c.args.self.now in
    let size = c.args.size in
    let known = c.known-known.ensures.known in
    let fit = known_fits self c.known-known.result.limit size known.limit (sym c.allows.ensures ∙ c.if-allows.true) in
    (put_off self c.args.sizes.pending size fit, record { pending = fit; limit = known.limit })
