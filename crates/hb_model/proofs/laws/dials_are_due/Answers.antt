use Rattle.hb_model.proofs.DialsDue.{dials_when_due}
use Rattle.hb_model.proofs.laws.dials_are_due.Goals as goal

pub returns : goal.returns
returns c = dials_when_due
