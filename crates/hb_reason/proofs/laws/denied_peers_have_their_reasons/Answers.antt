use Rattle.hb_reason.proofs.Denying.{has_reason, deny, alone, denied_has, judged_so}
use Rattle.hb_reason.proofs.laws.denied_peers_have_their_reasons.Goals as goal

pub returns-clause-have : goal.returns-clause-have
returns-clause-have c = has_reason

pub returns-clause-deny : goal.returns-clause-deny
returns-clause-deny c = deny

pub returns-clause-one : goal.returns-clause-one
returns-clause-one c = alone

pub returns-clause-denied : goal.returns-clause-denied
returns-clause-denied c = denied_has

pub returns-clause-judged : goal.returns-clause-judged
returns-clause-judged c = judged_so
