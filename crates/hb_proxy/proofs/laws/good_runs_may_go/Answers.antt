use Rattle.hb_proxy.proofs.Refusing.{run_may_go, run_is_lawful, goes_on_admitted, plain_run_may_go, plain_goes_on, outbound_goes_on, outbound_goes_back}
use Rattle.hb_proxy.proofs.OutboundRefusing.{outbound_run_may_go, outbound_run_is_lawful}
use Rattle.hb_proxy.proofs.laws.good_runs_may_go.Goals as goal

pub returns : goal.returns
returns c = record {
  run = run_may_go;
  lawful = run_is_lawful;
  goes_on = goes_on_admitted;
  plain = plain_run_may_go;
  plain_goes_on = plain_goes_on;
  outbound = outbound_run_may_go;
  outbound_lawful = outbound_run_is_lawful;
  outbound_goes_on = outbound_goes_on;
  outbound_goes_back = outbound_goes_back;
}
