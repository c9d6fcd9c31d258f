use Rattle.hb_kept.proofs.Looks.{looks}
use Rattle.hb_kept.proofs.laws.found_by_looks.Goals as goal

pub returns : goal.returns
returns c = looks
