use Rattle.hb_counted.proofs.Once.{none_counted}
use Rattle.hb_counted.proofs.laws.none_are_counted.Goals as goal

pub returns : goal.returns
returns c = none_counted
