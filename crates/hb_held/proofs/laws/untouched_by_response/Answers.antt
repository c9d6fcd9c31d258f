use Rattle.hb_held.proofs.Before.{untouched_by_response}
use Rattle.hb_held.proofs.laws.untouched_by_response.Goals as goal

pub returns : goal.returns
returns c = untouched_by_response
