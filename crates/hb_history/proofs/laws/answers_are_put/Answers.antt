use Rattle.hb_history.proofs.Answered.{answers_are_those, pings_are_echoed}
use Rattle.hb_history.proofs.laws.answers_are_put.Goals as goal

pub returns : goal.returns
returns c = record { all = answers_are_those; echo = pings_are_echoed }
