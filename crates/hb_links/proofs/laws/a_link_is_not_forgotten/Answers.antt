use Rattle.hb_links.proofs.NotShown.{forgets_link}
use Rattle.hb_links.proofs.laws.a_link_is_not_forgotten.Goals as goal

pub returns : goal.returns
returns c = forgets_link
