use Rattle.hb_laws.proofs.RefusedTraces.{reads_unopened, reads_behind_end, reads_behind_close, writes_unopened, finishes_opened}
use Rattle.hb_laws.proofs.laws.calls_are_refused.Goals as goal

pub returns : goal.returns
returns c = record {
  unopened = reads_unopened;
  behind_end = reads_behind_end;
  behind_close = reads_behind_close;
  writes = writes_unopened;
  finishes = finishes_opened;
}
