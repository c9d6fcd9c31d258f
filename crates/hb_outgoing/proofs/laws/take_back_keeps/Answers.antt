use Rattle.hb_outgoing.proofs.Sent.{take_back_keeps, others_stay}
use Rattle.hb_outgoing.proofs.laws.take_back_keeps.Goals as goal

pub returns : goal.returns
returns c = record { frames = take_back_keeps; others = others_stay }
