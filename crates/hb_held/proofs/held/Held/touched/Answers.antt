use Rattle.std.proofs.Common.{◌∙◌}
use Rattle.hb_held.proofs.TouchedLaw.{from_is_touched}
use Rattle.hb_held.proofs.held.Held.touched.Goals as goal

pub returns : goal.returns
returns c = c.is_touched.ensures ∙ from_is_touched c.args.self.now c.args.ip
