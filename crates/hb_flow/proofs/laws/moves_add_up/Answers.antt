use Rattle.hb_flow.proofs.Taking.{moves_add_up}
use Rattle.hb_flow.proofs.laws.moves_add_up.Goals as goal

pub returns : goal.returns
returns c = moves_add_up
