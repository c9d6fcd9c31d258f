use Rattle.hb_history.proofs.OwnCredits.{own_credits}
use Rattle.hb_history.proofs.laws.own_credits_go.Goals as goal

pub returns : goal.returns
returns c = own_credits
