use Rattle.hb_gate.proofs.Refused.{new_is_shown}
use Rattle.hb_gate.proofs.laws.a_new_link_is_shown.Goals as goal

pub returns : goal.returns
returns c = new_is_shown
