use Rattle.hb_verdict.proofs.Dialled.{only_where_it_may, all_that_it_may}
use Rattle.hb_verdict.proofs.laws.dials_where_it_may.Goals as goal

pub returns : goal.returns
returns c = record { only = only_where_it_may; all = all_that_it_may }
