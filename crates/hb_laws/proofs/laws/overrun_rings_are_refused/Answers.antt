use Rattle.hb_laws.proofs.RefusedRoutes.{overruns_plain, overruns_plain_back, overruns_outbound, overruns_outbound_back}
use Rattle.hb_laws.proofs.laws.overrun_rings_are_refused.Goals as goal

pub returns : goal.returns
returns c = record {
  plain = overruns_plain;
  plain_back = overruns_plain_back;
  outbound = overruns_outbound;
  outbound_back = overruns_outbound_back;
}
