use Rattle.hb_gate.proofs.Refused.{puts_behind_octets, keeps_back_behind_none}
use Rattle.hb_gate.proofs.laws.other_turns_are_refused.Goals as goal

pub returns : goal.returns
returns c = record { behind = puts_behind_octets; none = keeps_back_behind_none }
