use Rattle.hb_gateway.proofs.Refused.{asks_behind, asks_twice, asks_elsewhere, puts_early, resets_unasked, resets_closed, resets_twice, resets_behind_away, drops_unasked, writes_first, dials_elsewhere, finishes_early, done_open, tells_unheard, tells_uncome, sends_unput}
use Rattle.hb_gateway.proofs.laws.wrong_steps_are_refused.Goals as goal

pub returns : goal.returns
returns c = record {
  behind = asks_behind;
  twice = asks_twice;
  elsewhere = asks_elsewhere;
  early = puts_early;
  unasked = resets_unasked;
  closed = resets_closed;
  again = resets_twice;
  away = resets_behind_away;
  drops = drops_unasked;
  first = writes_first;
  dials = dials_elsewhere;
  finishes = finishes_early;
  done = done_open;
  unheard = tells_unheard;
  uncome = tells_uncome;
  unput = sends_unput;
}
