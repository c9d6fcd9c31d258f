use Rattle.hb_inbound.proofs.VerdictsRefused.{refuses_known, refuses_by_the_past, dials_another}
use Rattle.hb_inbound.proofs.laws.wrong_verdicts_are_refused.Goals as goal

pub returns : goal.returns
returns c = record { known = refuses_known; past = refuses_by_the_past; another = dials_another }
