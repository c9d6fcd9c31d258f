use Rattle.hb_inbound.proofs.ClosesRefused.{closes_healthy, closes_for_second, closes_broken, closes_done, reads_ended, looks_stopped, writes_twice, closes_twice, turns_away_late, closes_misfronted, writes_once}
use Rattle.hb_inbound.proofs.laws.early_closes_are_refused.Goals as goal

pub returns : goal.returns
returns c = record {
  healthy = closes_healthy;
  second = closes_for_second;
  another = closes_broken;
  done = closes_done;
  reads = reads_ended;
  looks = looks_stopped;
  writes = writes_twice;
  twice = closes_twice;
  late = turns_away_late;
  misfronted = closes_misfronted;
  once = writes_once;
}
