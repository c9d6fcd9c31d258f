use Rattle.hb_history.proofs.OwnFrames.{own_frames}
use Rattle.hb_history.proofs.laws.own_frames_go.Goals as goal

pub returns : goal.returns
returns c = own_frames
