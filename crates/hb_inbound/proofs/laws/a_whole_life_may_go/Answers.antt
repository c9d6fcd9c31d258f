use Rattle.hb_inbound.proofs.Whole.{life_may_go}
use Rattle.hb_inbound.proofs.laws.a_whole_life_may_go.Goals as goal

pub returns : goal.returns
returns c = life_may_go
