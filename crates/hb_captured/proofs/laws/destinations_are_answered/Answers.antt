use Rattle.hb_captured.proofs.Obeyed.{answer_all}
use Rattle.hb_captured.proofs.laws.destinations_are_answered.Goals as goal

pub returns : goal.returns
returns c = answer_all
