use Rattle.hb_gate.proofs.Refused.{closes_undue, closes_another}
use Rattle.hb_gate.proofs.laws.other_closes_are_refused.Goals as goal

pub returns : goal.returns
returns c = record { undue = closes_undue; another = closes_another }
