use Rattle.hb_node.proofs.Resting.{all_is_put}
use Rattle.hb_node.proofs.laws.all_is_put.Goals as goal

pub returns : goal.returns
returns c = all_is_put
