use Rattle.hb_laws.proofs.RefusedWindows.{goes_beyond, control_goes_beyond, gate_history_goes_beyond, passes_connection, passes_stream, passes_frame, last_octet_fits}
use Rattle.hb_laws.proofs.laws.windows_are_not_passed.Goals as goal

pub returns : goal.returns
returns c = record {
  link = goes_beyond;
  control = control_goes_beyond;
  gate = gate_history_goes_beyond;
  connection = passes_connection;
  stream = passes_stream;
  frame = passes_frame;
  fits = last_octet_fits;
}
