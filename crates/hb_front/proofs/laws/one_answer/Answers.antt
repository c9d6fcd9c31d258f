use Rattle.hb_front.proofs.Answers.{one_answer}
use Rattle.hb_front.proofs.laws.one_answer.Goals as goal

pub returns : goal.returns
returns c = one_answer
