use Rattle.hb_link.proofs.NotShown.{tells_none, tells_higher_first}
use Rattle.hb_link.proofs.laws.ends_are_told_in_order.Goals as goal

pub returns : goal.returns
returns c = record { none = tells_none; order = tells_higher_first }
