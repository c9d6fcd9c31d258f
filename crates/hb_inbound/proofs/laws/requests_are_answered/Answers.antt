use Rattle.hb_inbound.proofs.VerdictRun.{answers}
use Rattle.hb_inbound.proofs.laws.requests_are_answered.Goals as goal

pub returns : goal.returns
returns c = answers
