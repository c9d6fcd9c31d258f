use Rattle.hb_laws.proofs.RefusedOutbound.{dials_round}
use Rattle.hb_laws.proofs.laws.places_of_gateways_are_refused.Goals as goal

pub returns : goal.returns
returns c = record { round = dials_round }
