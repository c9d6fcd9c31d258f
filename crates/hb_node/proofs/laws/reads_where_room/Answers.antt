use Rattle.hb_node.proofs.Resting.{reads}
use Rattle.hb_node.proofs.laws.reads_where_room.Goals as goal

pub returns : goal.returns
returns c = reads
