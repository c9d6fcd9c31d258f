use Rattle.hb_model.proofs.MessagesRun.{held_is, obey_messages}
use Rattle.hb_model.proofs.MessagesAtOnce.{applied_at_once}
use Rattle.hb_model.proofs.laws.messages_are_applied.Goals as goal

pub returns : goal.returns
returns c = record { held = held_is; messages = obey_messages; at_once = applied_at_once }
