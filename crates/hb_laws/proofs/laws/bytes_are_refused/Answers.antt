use Rattle.hb_laws.proofs.RefusedLinks.{sends_more}
use Rattle.hb_laws.proofs.laws.bytes_are_refused.Goals as goal

pub returns : goal.returns
returns c = record { more = sends_more }
