use Rattle.hb_history.proofs.Sent.{connection_sends, streams_send, windows_fit, all_is_given_back}
use Rattle.hb_history.proofs.Initial.{initial_is_last}
use Rattle.hb_history.proofs.laws.sending_windows_are_sums.Goals as goal

pub returns : goal.returns
returns c = record {
  connection = connection_sends;
  streams = streams_send;
  initial = initial_is_last;
  within = windows_fit;
  back = all_is_given_back;
}
