use Rattle.hb_gateway.proofs.Refused.{success_opens, life_is_in_order, first_may_go}
use Rattle.hb_gateway.proofs.laws.good_runs_may_go.Goals as goal

pub returns : goal.returns
returns c = record { success = success_opens; life = life_is_in_order; first = first_may_go }
