use Rattle.hb_laws.proofs.RefusedOutbound.{dials_relay_untold}
use Rattle.hb_laws.proofs.RefusedPlain.{comes_undialled, goes_undialled, closes_healthy, closes_for_second}
use Rattle.hb_laws.proofs.laws.plain_links_are_refused.Goals as goal

pub returns : goal.returns
returns c = record {
  comes = comes_undialled;
  goes = goes_undialled;
  untold = dials_relay_untold;
  healthy = closes_healthy;
  second = closes_for_second;
}
