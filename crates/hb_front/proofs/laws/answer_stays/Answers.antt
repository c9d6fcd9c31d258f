use Rattle.hb_front.proofs.Answers.{answer_stays}
use Rattle.hb_front.proofs.laws.answer_stays.Goals as goal

pub returns : goal.returns
returns c = answer_stays
