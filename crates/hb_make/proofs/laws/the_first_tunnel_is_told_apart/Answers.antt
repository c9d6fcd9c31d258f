use Rattle.hb_make.proofs.MadeLemmas.{lacks_update}
use Rattle.hb_make.proofs.TunnelLemmas.{one_mark_goes_up, two_marks_do_not, links_are_not_from_one, port_is_not_the_other, wake_is_there}
use Rattle.hb_make.proofs.laws.the_first_tunnel_is_told_apart.Goals as goal

pub returns : goal.returns
returns c = record {
  one = one_mark_goes_up;
  two = two_marks_do_not;
  links = links_are_not_from_one;
  port = port_is_not_the_other;
  wake = wake_is_there;
  update = lacks_update;
}
