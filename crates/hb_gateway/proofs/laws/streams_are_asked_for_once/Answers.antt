use Rattle.hb_gateway.proofs.Asking.{ask}
use Rattle.hb_gateway.proofs.laws.streams_are_asked_for_once.Goals as goal

pub returns : goal.returns
returns c = ask
