use Rattle.hb_blocks.proofs.Cuts.{length_is_told_at_once}
use Rattle.hb_blocks.proofs.laws.length_is_told_at_once.Goals as goal

pub returns : goal.returns
returns c = length_is_told_at_once
