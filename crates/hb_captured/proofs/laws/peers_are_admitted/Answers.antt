use Rattle.hb_captured.proofs.Obeyed.{admit}
use Rattle.hb_captured.proofs.laws.peers_are_admitted.Goals as goal

pub returns : goal.returns
returns c = admit
