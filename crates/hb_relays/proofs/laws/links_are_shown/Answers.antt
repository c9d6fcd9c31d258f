use Rattle.hb_relays.proofs.NotShown.{one_is_shown}
use Rattle.hb_relays.proofs.laws.links_are_shown.Goals as goal

pub returns : goal.returns
returns c = one_is_shown
