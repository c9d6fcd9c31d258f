use Rattle.hb_kept.proofs.Examples.{faulted_is_refused, no_octet_is_refused, few_have_room, more_is_refused, new_is_shut}
use Rattle.hb_kept.proofs.Examples.{write_is_refused, open_is_refused}
use Rattle.hb_kept.proofs.laws.others_are_refused.Goals as goal

pub returns : goal.returns
returns c = record {
  fault = faulted_is_refused;
  octet = no_octet_is_refused;
  room = few_have_room;
  more = more_is_refused;
  new = new_is_shut;
  write = write_is_refused;
  side = open_is_refused;
}
