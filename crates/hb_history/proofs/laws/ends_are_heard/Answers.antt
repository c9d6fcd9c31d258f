use Rattle.hb_history.proofs.Heard.{frames_are_heard, none_ended_it}
use Rattle.hb_history.proofs.laws.ends_are_heard.Goals as goal

pub returns : goal.returns
returns c = record { heard = frames_are_heard; unended = none_ended_it }
