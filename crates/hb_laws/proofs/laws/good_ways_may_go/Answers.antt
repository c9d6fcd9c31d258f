use Rattle.hb_laws.proofs.RefusedRoutes.{dials_by_its_key, routes_by_counts, opens_at_200, fails_at_403, closes_broken_gate, writes_gate_once, fills_plain, fills_outbound_back}
use Rattle.hb_laws.proofs.laws.good_ways_may_go.Goals as goal

pub returns : goal.returns
returns c = record {
  dials = dials_by_its_key;
  routes = routes_by_counts;
  opens = opens_at_200;
  fails = fails_at_403;
  closes = closes_broken_gate;
  writes = writes_gate_once;
  fills = fills_plain;
  fills_back = fills_outbound_back;
}
