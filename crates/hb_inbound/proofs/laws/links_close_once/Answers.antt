use Rattle.hb_inbound.proofs.ClosesRun.{closes}
use Rattle.hb_inbound.proofs.laws.links_close_once.Goals as goal

pub returns : goal.returns
returns c = closes
