use Rattle.hb_proxy.proofs.Ends.{runs_end}
use Rattle.hb_proxy.proofs.laws.ends_go_first.Goals as goal

pub returns : goal.returns
returns c = runs_end
