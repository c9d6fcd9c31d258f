use Rattle.hb_inbound.proofs.Updating.{writes_revoked, puts_revoked}
use Rattle.hb_inbound.proofs.laws.revoked_tunnels_are_silent.Goals as goal

pub returns : goal.returns
returns c = record { writes = writes_revoked; puts = puts_revoked }
