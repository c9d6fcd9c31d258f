use Rattle.hb_relays.proofs.RestsRefused.{misses_put, passes_over, passes_over_among}
use Rattle.hb_relays.proofs.laws.bytes_are_not_passed_over.Goals as goal

pub returns : goal.returns
returns c = record { put = misses_put; rests = passes_over; among = passes_over_among }
