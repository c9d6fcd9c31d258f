use Rattle.hb_model.proofs.RequestsRun.{obey_requests}
use Rattle.hb_model.proofs.laws.requests_go_in_order.Goals as goal

pub returns : goal.returns
returns c = obey_requests
