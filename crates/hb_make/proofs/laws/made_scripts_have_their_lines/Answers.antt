use Rattle.hb_make.proofs.MadeLemmas.{made_length}
use Rattle.hb_make.proofs.laws.made_scripts_have_their_lines.Goals as goal

pub returns : goal.returns
returns c = made_length
