use Rattle.hb_laws.proofs.RefusedRoutes.{routes_by_other_port, refuses_by_other_port, routes_uncounted, routes_by_ended}
use Rattle.hb_laws.proofs.laws.other_routings_are_refused.Goals as goal

pub returns : goal.returns
returns c = record { port = routes_by_other_port; refused = refuses_by_other_port; uncounted = routes_uncounted; ended = routes_by_ended }
