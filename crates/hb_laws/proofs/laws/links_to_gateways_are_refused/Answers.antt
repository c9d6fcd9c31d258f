use Rattle.hb_laws.proofs.GatewayCloses.{closes_gateway}
use Rattle.hb_laws.proofs.GatewayEnds.{keeps_broken, keeps_ended}
use Rattle.hb_laws.proofs.RefusedGateways.{dials_for_plain, dials_unasked, dials_untold, writes_unopened, writes_no_front, invents_bytes, shuts_gateway}
use Rattle.hb_laws.proofs.laws.links_to_gateways_are_refused.Goals as goal

pub returns : goal.returns
returns c = record {
  plain = dials_for_plain;
  unasked = dials_unasked;
  untold = dials_untold;
  unopened = writes_unopened;
  front = writes_no_front;
  invents = invents_bytes;
  shuts = shuts_gateway;
  closes = closes_gateway;
  broken = keeps_broken;
  ended = keeps_ended;
}
