use Rattle.hb_inbound.proofs.RelayDown.{relay_down}
use Rattle.hb_inbound.proofs.RelayUp.{relay_up}
use Rattle.hb_inbound.proofs.laws.bytes_are_relayed.Goals as goal

pub returns : goal.returns
returns c = record { up = relay_up; down = relay_down }
