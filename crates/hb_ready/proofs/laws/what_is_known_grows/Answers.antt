use Rattle.hb_ready.proofs.Sights.{known-grows, asked-grows, numbered-grows}
use Rattle.hb_ready.proofs.laws.what_is_known_grows.Goals as goal

pub returns : goal.returns
returns c = record { known = known-grows; asked = asked-grows; numbered = numbered-grows }
