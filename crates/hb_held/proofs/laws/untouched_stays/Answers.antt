use Rattle.hb_held.proofs.TouchedLaw.{untouched_stays}
use Rattle.hb_held.proofs.laws.untouched_stays.Goals as goal

pub returns : goal.returns
returns c = untouched_stays
