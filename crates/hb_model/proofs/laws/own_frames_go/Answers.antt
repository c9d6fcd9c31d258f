use Rattle.hb_model.proofs.OwnFrames.{send_own_frames}
use Rattle.hb_model.proofs.laws.own_frames_go.Goals as goal

pub returns : goal.returns
returns c = send_own_frames
