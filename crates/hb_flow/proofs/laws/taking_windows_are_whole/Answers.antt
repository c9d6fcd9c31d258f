use Rattle.hb_flow.proofs.Taking.{connection_takes, stream_takes}
use Rattle.hb_flow.proofs.laws.taking_windows_are_whole.Goals as goal

pub returns : goal.returns
returns c = record { connection = connection_takes; stream = stream_takes }
