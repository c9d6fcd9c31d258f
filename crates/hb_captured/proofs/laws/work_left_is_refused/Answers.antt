use Rattle.hb_captured.proofs.Refused.{tries_done, leaves_open}
use Rattle.hb_captured.proofs.laws.work_left_is_refused.Goals as goal

pub returns : goal.returns
returns c = record { done = tries_done; left_open = leaves_open }
