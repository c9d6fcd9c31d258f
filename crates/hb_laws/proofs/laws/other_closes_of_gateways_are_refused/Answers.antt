use Rattle.hb_laws.proofs.RefusedRoutes.{closes_healthy_gate, closes_gate_for_second, closes_ended_as_broken, closes_gate_twice, reads_ended_gate, asks_ended_gate, writes_gate_twice}
use Rattle.hb_laws.proofs.laws.other_closes_of_gateways_are_refused.Goals as goal

pub returns : goal.returns
returns c = record {
  healthy = closes_healthy_gate;
  second = closes_gate_for_second;
  ended = closes_ended_as_broken;
  twice = closes_gate_twice;
  reads = reads_ended_gate;
  asks = asks_ended_gate;
  writes = writes_gate_twice;
}
