use Rattle.hb_proxy.proofs.Gates.{gates_run}
use Rattle.hb_proxy.proofs.Plain.{plain_runs, plain_holds}
use Rattle.hb_proxy.proofs.Projection.{control_runs, links_run, control_holds, links_hold}
use Rattle.hb_proxy.proofs.laws.parts_are_runs.Goals as goal

pub returns : goal.returns
returns c = record {
  control = control_runs;
  links = links_run;
  plain = plain_runs;
  gates = gates_run;
  held = control_holds;
  shared = links_hold;
  plain_shared = plain_holds;
}
