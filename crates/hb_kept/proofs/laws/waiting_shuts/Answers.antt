use Rattle.hb_kept.proofs.Shut.{waiting_shuts, frame_shuts, put_shuts, opening_shuts}
use Rattle.hb_kept.proofs.Resets.{reset_shuts}
use Rattle.hb_kept.proofs.laws.waiting_shuts.Goals as goal

pub returns : goal.returns
returns c = record {
  waits = waiting_shuts;
  frame = frame_shuts;
  put = put_shuts;
  opening = opening_shuts;
  reset = reset_shuts;
}
