use Rattle.hb_inbound.proofs.DialsRun.{runs_dial, dials_elsewhere, leaves_out_dial, dials_twice, dials_for_another, dial_may_go}
use Rattle.hb_inbound.proofs.laws.targets_are_dialled.Goals as goal

pub returns : goal.returns
returns c = record {
  runs = runs_dial;
  elsewhere = dials_elsewhere;
  left_out = leaves_out_dial;
  twice = dials_twice;
  another = dials_for_another;
  good = dial_may_go;
}
