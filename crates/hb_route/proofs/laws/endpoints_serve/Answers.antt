use Rattle.hb_route.proofs.Serving.{places_serve, none_missed}
use Rattle.hb_route.proofs.laws.endpoints_serve.Goals as goal

pub returns : goal.returns
returns c = record { only = places_serve; all = none_missed }
