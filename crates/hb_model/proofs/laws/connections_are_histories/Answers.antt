use Rattle.hb_model.proofs.ConnectionsRun.{obey_connections}
use Rattle.hb_model.proofs.laws.connections_are_histories.Goals as goal

pub returns : goal.returns
returns c = obey_connections
