use Rattle.hb_captured.proofs.Obeyed.{relay}
use Rattle.hb_captured.proofs.laws.bytes_are_relayed.Goals as goal

pub returns : goal.returns
returns c = relay
