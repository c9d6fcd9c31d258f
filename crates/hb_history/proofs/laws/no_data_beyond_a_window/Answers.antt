use Rattle.hb_history.proofs.Sent.{never_below_zero}
use Rattle.hb_history.proofs.Granted.{never_more_than_granted}
use Rattle.hb_history.proofs.laws.no_data_beyond_a_window.Goals as goal

pub returns : goal.returns
returns c = record { granted = never_more_than_granted; below = never_below_zero }
