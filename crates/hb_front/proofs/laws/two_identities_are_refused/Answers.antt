use Rattle.hb_front.proofs.Refusals.{two_identities}
use Rattle.hb_front.proofs.laws.two_identities_are_refused.Goals as goal

pub returns : goal.returns
returns c = two_identities
