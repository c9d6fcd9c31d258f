use Rattle.hb_proxy.proofs.Relay.{runs_relay}
use Rattle.hb_proxy.proofs.laws.bytes_are_relayed.Goals as goal

pub returns : goal.returns
returns c = runs_relay
