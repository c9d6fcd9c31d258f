use Rattle.hb_verdict.proofs.Asked.{asked_for, none_missed}
use Rattle.hb_verdict.proofs.laws.tunnels_are_asked_for.Goals as goal

pub returns : goal.returns
returns c = record { only = asked_for; all = none_missed }
