use Rattle.hb_laws.proofs.RefusedRoutes.{opens_at_403, opens_at_interim, opens_unanswered, opens_failed, fails_at_200, reads_unread}
use Rattle.hb_laws.proofs.laws.other_openings_are_refused.Goals as goal

pub returns : goal.returns
returns c = record {
  forbidden = opens_at_403;
  interim = opens_at_interim;
  unanswered = opens_unanswered;
  failed = opens_failed;
  fails = fails_at_200;
  unread = reads_unread;
}
