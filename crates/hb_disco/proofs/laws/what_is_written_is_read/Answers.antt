use Rattle.hb_disco.proofs.Fields.{first_is, answer_is, node_is, entry_is, status_is}
use Rattle.hb_disco.proofs.laws.what_is_written_is_read.Goals as goal

pub returns-clause-first : goal.returns-clause-first
returns-clause-first c = first_is

pub returns-clause-answer : goal.returns-clause-answer
returns-clause-answer c = answer_is

pub returns-clause-node : goal.returns-clause-node
returns-clause-node c = node_is

pub returns-clause-entry : goal.returns-clause-entry
returns-clause-entry c = entry_is

pub returns-clause-status : goal.returns-clause-status
returns-clause-status c = status_is
