use Rattle.hb_history.proofs.OwnExamples.{no_more_headers, no_end, no_other_stream, no_reset, no_end_at_once, no_goodbye, no_goodbye_of_stream, nothing_behind}
use Rattle.hb_history.proofs.laws.own_frames_are_refused.Goals as goal

pub returns : goal.returns
returns c = record {
  headers = no_more_headers;
  end = no_end;
  end_at_once = no_end_at_once;
  other_stream = no_other_stream;
  reset = no_reset;
  goodbye = no_goodbye;
  goodbye_of_stream = no_goodbye_of_stream;
  behind = nothing_behind;
}
