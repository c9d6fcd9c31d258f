use Rattle.hb_outgoing.proofs.Sent.{all_is_spelled}
use Rattle.hb_outgoing.proofs.laws.all_is_spelled.Goals as goal

pub returns : goal.returns
returns c = all_is_spelled
