use Rattle.hb_history.proofs.First.{data_stands_first}
use Rattle.hb_history.proofs.laws.data_stands_first.Goals as goal

pub returns : goal.returns
returns c = data_stands_first
