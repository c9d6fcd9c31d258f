use Rattle.hb_laws.proofs.RefusedPlain.{relays_denied, dials_aside, shuts_early, shuts_back_early, keeps_ended, keeps_revoked, closes_for_another, closes_live}
use Rattle.hb_laws.proofs.laws.places_of_plain_links_are_refused.Goals as goal

pub returns : goal.returns
returns c = record {
  denied = relays_denied;
  aside = dials_aside;
  shuts = shuts_early;
  shuts_back = shuts_back_early;
  ended = keeps_ended;
  revoked = keeps_revoked;
  another = closes_for_another;
  live = closes_live;
}
