use Rattle.hb_counted.proofs.Starting.{starts_there, not_behind}
use Rattle.hb_counted.proofs.laws.a_start_passes_over_none.Goals as goal

pub returns-clause-there : goal.returns-clause-there
returns-clause-there c = starts_there

pub returns-clause-behind : goal.returns-clause-behind
returns-clause-behind c = not_behind
