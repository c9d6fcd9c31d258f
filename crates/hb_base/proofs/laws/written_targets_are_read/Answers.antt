use Rattle.hb_base.proofs.TargetLemmas.{target_of-text}
use Rattle.hb_base.proofs.laws.written_targets_are_read.Goals as goal

pub returns : goal.returns
returns c = target_of-text
