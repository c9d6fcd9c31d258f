use Rattle.hb_history.proofs.Flowed.{windows_move, taking_is_whole}
use Rattle.hb_history.proofs.laws.taking_windows_are_whole.Goals as goal

pub returns : goal.returns
returns c = record { moves = windows_move; whole = taking_is_whole }
