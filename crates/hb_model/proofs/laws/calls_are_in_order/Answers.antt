use Rattle.hb_model.proofs.CallsLives.{calls_in_order}
use Rattle.hb_model.proofs.laws.calls_are_in_order.Goals as goal

pub returns : goal.returns
returns c = calls_in_order
