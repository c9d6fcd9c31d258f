use Rattle.hb_flow.proofs.Sending.{connection_sends, stream_sends}
use Rattle.hb_flow.proofs.laws.sending_windows_are_sums.Goals as goal

pub returns : goal.returns
returns c = record { connection = connection_sends; stream = stream_sends }
