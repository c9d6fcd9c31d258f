use Rattle.hb_front.proofs.Refusals.{length_counts}
use Rattle.hb_front.proofs.laws.length_counts_all.Goals as goal

pub returns : goal.returns
returns c = length_counts
