use Rattle.std.proofs.Common.{rules}
use Rattle.hb_node.proofs.Dialling.{tick_enters}
use Rattle.hb_node.proofs.node.Node.tick.Goals as goal

pub returns-clause-enters : goal.returns-clause-enters
returns-clause-enters c = tick_enters _ _ (search rules)
