use Rattle.hb_captured.proofs.GatewayRefused.{puts_unopened, takes_unopened, puts_another, finishes_early, stays_open, keeps_stream, counts_unbegun}
use Rattle.hb_captured.proofs.laws.careless_streams_are_refused.Goals as goal

pub returns : goal.returns
returns c = record {
  puts = puts_unopened;
  takes = takes_unopened;
  another = puts_another;
  finishes = finishes_early;
  stays_open = stays_open;
  keeps = keeps_stream;
  counts = counts_unbegun;
}
