use Rattle.hb_gate.proofs.Refused.{puts_without_room, asks_elsewhere, offers_away, reads_faulted}
use Rattle.hb_gate.proofs.laws.too_much_is_refused.Goals as goal

pub returns : goal.returns
returns c = record { puts = puts_without_room; asks = asks_elsewhere; offers = offers_away; reads = reads_faulted }
