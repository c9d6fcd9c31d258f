use Rattle.hb_inbound.proofs.EndsRun.{end}
use Rattle.hb_inbound.proofs.laws.tunnels_end_once.Goals as goal

pub returns : goal.returns
returns c = end
