use Rattle.hb_owed.proofs.Payments.{pays_in_order}
use Rattle.hb_owed.proofs.laws.pays_in_order.Goals as goal

pub returns : goal.returns
returns c = pays_in_order
