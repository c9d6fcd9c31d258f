use Rattle.hb_history.proofs.Budget.{finds_within, takes_within, answers_are_few}
use Rattle.hb_history.proofs.laws.answers_are_few.Goals as goal

pub returns : goal.returns
returns c = record { finds = finds_within; takes = takes_within; all = answers_are_few }
