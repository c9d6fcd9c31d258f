use Rattle.hb_cli.proofs.Explaining.{explains, next_explains_nothing, fewer_explain_nothing}
use Rattle.hb_cli.proofs.laws.explanations_decide_answers.Goals as goal

pub returns-clause-explains : goal.returns-clause-explains
returns-clause-explains c = explains

pub returns-clause-another : goal.returns-clause-another
returns-clause-another c = next_explains_nothing

pub returns-clause-fewer : goal.returns-clause-fewer
returns-clause-fewer c = fewer_explain_nothing
