use Rattle.hb_relays.proofs.NotShown.{forgets_link}
use Rattle.hb_relays.proofs.laws.a_link_is_not_forgotten.Goals as goal

pub returns : goal.returns
returns c = forgets_link
