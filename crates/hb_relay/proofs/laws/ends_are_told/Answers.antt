use Rattle.hb_relay.proofs.Refused.{ends_untold}
use Rattle.hb_relay.proofs.laws.ends_are_told.Goals as goal

pub returns : goal.returns
returns c = ends_untold
