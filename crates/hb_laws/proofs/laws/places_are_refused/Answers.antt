use Rattle.hb_laws.proofs.RefusedTunnels.{goes_denied, dials_elsewhere, keeps_ended, keeps_revoked, closes_for_another, closes_live}
use Rattle.hb_laws.proofs.laws.places_are_refused.Goals as goal

pub returns : goal.returns
returns c = record {
  denied = goes_denied;
  elsewhere = dials_elsewhere;
  ended = keeps_ended;
  revoked = keeps_revoked;
  another = closes_for_another;
  live = closes_live;
}
