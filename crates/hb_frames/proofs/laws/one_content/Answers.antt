use Rattle.hb_frames.proofs.Padding.{one_content}
use Rattle.hb_frames.proofs.laws.one_content.Goals as goal

pub returns : goal.returns
returns c = one_content
