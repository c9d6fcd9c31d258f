use Rattle.hb_captured.proofs.Refused.{writes_behind, writes_back_behind, reads_behind, closes_for_another, closes_admitted}
use Rattle.hb_captured.proofs.laws.revoked_relays_are_silent.Goals as goal

pub returns : goal.returns
returns c = record {
  writes = writes_behind;
  writes_back = writes_back_behind;
  reads = reads_behind;
  another_cause = closes_for_another;
  admitted = closes_admitted;
}
