use Rattle.hb_laws.proofs.RefusedOutbound.{dials_as_plain, dials_as_direct, dials_untold, relays_untold}
use Rattle.hb_laws.proofs.laws.outbound_links_are_refused.Goals as goal

pub returns : goal.returns
returns c = record {
  as_plain = dials_as_plain;
  as_direct = dials_as_direct;
  untold = dials_untold;
  relays = relays_untold;
}
