use Rattle.hb_relay.proofs.StreamRefused.{bytes_are_found}
use Rattle.hb_relay.proofs.laws.waiting_bytes_are_found.Goals as goal

pub returns : goal.returns
returns c = bytes_are_found
