use Rattle.hb_relay.proofs.StreamRefused.{finds_bytes_in_none, misses_byte}
use Rattle.hb_relay.proofs.laws.other_bytes_are_not_found.Goals as goal

pub returns : goal.returns
returns c = record { none = finds_bytes_in_none; one = misses_byte }
