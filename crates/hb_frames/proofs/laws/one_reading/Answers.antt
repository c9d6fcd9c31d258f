use Rattle.hb_frames.proofs.FrameLists.{one_reading}
use Rattle.hb_frames.proofs.laws.one_reading.Goals as goal

pub returns : goal.returns
returns c = one_reading
