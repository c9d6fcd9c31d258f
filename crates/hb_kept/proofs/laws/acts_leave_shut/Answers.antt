use Rattle.hb_kept.proofs.Shut.{staying_stays_shut, put_stays_shut, use_stays_shut, answer_stays_shut, end_stays_shut}
use Rattle.hb_kept.proofs.laws.acts_leave_shut.Goals as goal

pub returns : goal.returns
returns c = record {
  stays = staying_stays_shut;
  put = put_stays_shut;
  uses = use_stays_shut;
  answer = answer_stays_shut;
  end = end_stays_shut;
}
