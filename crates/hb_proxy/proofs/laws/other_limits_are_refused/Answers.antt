use Rattle.hb_proxy.proofs.Limits.{finds_no_place, finds_place_beyond, turns_away_first, welcomes_beyond}
use Rattle.hb_proxy.proofs.Limits.{turns_away_plain, welcomes_plain_beyond, refuses_with_none, dials_gate_beyond}
use Rattle.hb_proxy.proofs.laws.other_limits_are_refused.Goals as goal

pub returns : goal.returns
returns c = record {
  no_place = finds_no_place;
  place_beyond = finds_place_beyond;
  first = turns_away_first;
  beyond = welcomes_beyond;
  plain = turns_away_plain;
  plain_beyond = welcomes_plain_beyond;
  none = refuses_with_none;
  gate_beyond = dials_gate_beyond;
}
