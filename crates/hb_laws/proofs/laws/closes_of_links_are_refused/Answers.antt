use Rattle.hb_laws.proofs.RefusedLinks.{closes_healthy_link, closes_for_second}
use Rattle.hb_laws.proofs.laws.closes_of_links_are_refused.Goals as goal

pub returns : goal.returns
returns c = record {
  healthy = closes_healthy_link;
  second = closes_for_second;
}
