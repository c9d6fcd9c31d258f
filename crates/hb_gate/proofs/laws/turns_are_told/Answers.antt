use Rattle.hb_gate.proofs.Refused.{puts_in_turn}
use Rattle.hb_gate.proofs.laws.turns_are_told.Goals as goal

pub returns : goal.returns
returns c = puts_in_turn
