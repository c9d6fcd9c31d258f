use Rattle.hb_inbound.proofs.AccessRun.{admit}
use Rattle.hb_inbound.proofs.laws.peers_are_admitted.Goals as goal

pub returns : goal.returns
returns c = admit
