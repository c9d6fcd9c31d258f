use Rattle.hb_gateway.proofs.Hearing.{hear_in_order, hear_nothing}
use Rattle.hb_gateway.proofs.laws.tunnels_hear_in_order.Goals as goal

pub returns : goal.returns
returns c = record { order = hear_in_order; unasked = hear_nothing }
