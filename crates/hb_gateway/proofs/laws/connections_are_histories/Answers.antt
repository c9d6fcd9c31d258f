use Rattle.hb_gateway.proofs.Runs.{obey_connections}
use Rattle.hb_gateway.proofs.WindowsRun.{obey_windows}
use Rattle.hb_gateway.proofs.laws.connections_are_histories.Goals as goal

pub returns : goal.returns
returns c = record { connections = obey_connections; windows = obey_windows }
