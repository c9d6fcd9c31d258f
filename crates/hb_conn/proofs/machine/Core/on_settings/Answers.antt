use Rattle.std.proofs.Common.{◌∙◌, sym}
use Rattle.hb_conn.proofs.machine.Core.on_settings.Goals as goal

pub returns : goal.returns
returns c =
    let none = sym c.allows_push.ensures ∙ c.if-allows_push.false in
    rw (c.if-ack.false, none) (c.apply_all-fits.new.self, c.apply_all-fits.result, c.apply_all-fits.ensures.after, c.settle.ensures)
