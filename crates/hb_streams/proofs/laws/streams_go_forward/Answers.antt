use Rattle.hb_streams.proofs.Forward.{active_are_in_use, stays_used, stays_closed}
use Rattle.hb_streams.proofs.laws.streams_go_forward.Goals as goal

pub returns : goal.returns
returns c = record { active = active_are_in_use; used = stays_used; closed = stays_closed }
