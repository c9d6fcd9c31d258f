use Rattle.hb_streams.proofs.Forward.{moves_add_up}
use Rattle.hb_streams.proofs.laws.moves_add_up.Goals as goal

pub returns : goal.returns
returns c = moves_add_up
