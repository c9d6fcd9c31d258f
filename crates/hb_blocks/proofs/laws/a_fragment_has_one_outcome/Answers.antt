use Rattle.hb_blocks.proofs.Outcomes.{one_outcome}
use Rattle.hb_blocks.proofs.laws.a_fragment_has_one_outcome.Goals as goal

pub returns : goal.returns
returns c = one_outcome
