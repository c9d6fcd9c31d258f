use Rattle.hb_counted.proofs.Once.{adds_one, not_none, not_two}
use Rattle.hb_counted.proofs.laws.a_value_counts_once.Goals as goal

pub returns-clause-adds : goal.returns-clause-adds
returns-clause-adds c = adds_one

pub returns-clause-missed : goal.returns-clause-missed
returns-clause-missed c = not_none

pub returns-clause-doubled : goal.returns-clause-doubled
returns-clause-doubled c = not_two
