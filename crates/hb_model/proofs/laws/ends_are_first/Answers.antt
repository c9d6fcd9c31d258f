use Rattle.hb_model.proofs.EndsLaw.{ends_are_first}
use Rattle.hb_model.proofs.laws.ends_are_first.Goals as goal

pub returns : goal.returns
returns c = ends_are_first
