use Rattle.hb_outgoing.proofs.Sent.{put_adds}
use Rattle.hb_outgoing.proofs.laws.put_adds.Goals as goal

pub returns : goal.returns
returns c = put_adds
