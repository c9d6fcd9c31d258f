use Rattle.hb_blocks.proofs.Cuts.{all_is_held, cuts_change_nothing, long_fronts_change_nothing}
use Rattle.hb_blocks.proofs.laws.cuts_change_nothing.Goals as goal

pub returns : goal.returns
returns c = record { held = all_is_held; answer = cuts_change_nothing; long = long_fronts_change_nothing }
