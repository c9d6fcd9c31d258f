use Rattle.hb_laws.proofs.RefusedTraces.{closes_healthy, closes_for_another, closes_for_second, keeps_ended, keeps_broken}
use Rattle.hb_laws.proofs.laws.closes_are_refused.Goals as goal

pub returns : goal.returns
returns c = record {
  healthy = closes_healthy;
  for_another = closes_for_another;
  for_second = closes_for_second;
  ended = keeps_ended;
  broken = keeps_broken;
}
