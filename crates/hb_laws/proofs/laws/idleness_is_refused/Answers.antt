use Rattle.hb_laws.proofs.RefusedTraces.{looks_at_nothing, applies_forged}
use Rattle.hb_laws.proofs.laws.idleness_is_refused.Goals as goal

pub returns : goal.returns
returns c = record { looks = looks_at_nothing; forged = applies_forged }
