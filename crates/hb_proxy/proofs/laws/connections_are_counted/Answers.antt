use Rattle.hb_proxy.proofs.Counting.{runs_count_opens}
use Rattle.hb_proxy.proofs.laws.connections_are_counted.Goals as goal

pub returns : goal.returns
returns c = runs_count_opens
