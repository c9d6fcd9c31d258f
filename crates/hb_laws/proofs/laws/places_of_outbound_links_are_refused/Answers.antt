use Rattle.hb_laws.proofs.RefusedOutbound.{dials_unrouted, dials_astray, closes_updated, closes_revoked}
use Rattle.hb_laws.proofs.laws.places_of_outbound_links_are_refused.Goals as goal

pub returns : goal.returns
returns c = record {
  unrouted = dials_unrouted;
  astray = dials_astray;
  updated = closes_updated;
  revoked = closes_revoked;
}
