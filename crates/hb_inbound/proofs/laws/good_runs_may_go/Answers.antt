use Rattle.hb_inbound.proofs.RefusedRuns.{goes_on_admitted, closes_revoked}
use Rattle.hb_inbound.proofs.laws.good_runs_may_go.Goals as goal

pub returns : goal.returns
returns c = record { goes_on = goes_on_admitted; closes = closes_revoked }
