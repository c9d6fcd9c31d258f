use Rattle.hb_index.proofs.Changes.{empty_indexed, same_indexed}
use Rattle.hb_index.proofs.indexed.Indexed.new.Goals as goal

pub invariant_of-result : goal.invariant_of-result
invariant_of-result g c = same_indexed g.T.Numbered.numbers _ _ _ _ c.new.ensures.now c.new-2.ensures (empty_indexed g.T.Numbered.numbers)
