use Rattle.hb_inbound.proofs.RefusedRuns.{writes_behind, goes_on_behind, puts_behind, reads_behind, closes_for_another, closes_admitted, dials_unbidden}
use Rattle.hb_inbound.proofs.laws.revoked_runs_are_refused.Goals as goal

pub returns : goal.returns
returns c = record {
  writes = writes_behind;
  goes_on = goes_on_behind;
  puts = puts_behind;
  reads = reads_behind;
  another_cause = closes_for_another;
  closes = closes_admitted;
  dials = dials_unbidden;
}
