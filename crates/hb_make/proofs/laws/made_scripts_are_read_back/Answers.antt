use Rattle.hb_make.proofs.MadeLemmas.{made_read_back}
use Rattle.hb_make.proofs.laws.made_scripts_are_read_back.Goals as goal

pub returns : goal.returns
returns c = made_read_back
