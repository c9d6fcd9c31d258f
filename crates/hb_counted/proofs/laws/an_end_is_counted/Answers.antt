use Rattle.hb_counted.proofs.Once.{not_kept}
use Rattle.hb_counted.proofs.laws.an_end_is_counted.Goals as goal

pub returns : goal.returns
returns c = not_kept
