use Rattle.hb_captured.proofs.Refused.{shuts_waiting, shuts_early, shuts_back_waiting, writes_header, counts_header, drops_first, done_waiting}
use Rattle.hb_captured.proofs.laws.bytes_are_kept.Goals as goal

pub returns : goal.returns
returns c = record {
  shuts = shuts_waiting;
  early = shuts_early;
  shuts_back = shuts_back_waiting;
  header = writes_header;
  counts = counts_header;
  drops = drops_first;
  done = done_waiting;
}
