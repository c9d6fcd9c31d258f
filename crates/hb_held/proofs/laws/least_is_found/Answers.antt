use Rattle.hb_held.proofs.LeastLaw.{least_found}
use Rattle.hb_held.proofs.laws.least_is_found.Goals as goal

pub returns : goal.returns
returns c = least_found
