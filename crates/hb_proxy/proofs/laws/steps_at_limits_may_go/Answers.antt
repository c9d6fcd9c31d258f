use Rattle.hb_proxy.proofs.Limits.{finds_place, finds_all_taken, turns_away_beyond, welcomes_last}
use Rattle.hb_proxy.proofs.laws.steps_at_limits_may_go.Goals as goal

pub returns : goal.returns
returns c = record { place = finds_place; all_taken = finds_all_taken; beyond = turns_away_beyond; last = welcomes_last }
