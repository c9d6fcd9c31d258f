use Rattle.hb_inbound.proofs.RelayRefused.{invents_byte, writes_front, invents_down, goes_down, ends_waiting}
use Rattle.hb_inbound.proofs.laws.invented_bytes_are_refused.Goals as goal

pub returns : goal.returns
returns c = record {
  invents = invents_byte;
  front = writes_front;
  invents_down = invents_down;
  front_down = goes_down;
  ends = ends_waiting;
}
