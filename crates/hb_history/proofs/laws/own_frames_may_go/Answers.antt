use Rattle.hb_history.proofs.OwnExamples.{good_frames}
use Rattle.hb_history.proofs.laws.own_frames_may_go.Goals as goal

pub returns : goal.returns
returns c = good_frames
