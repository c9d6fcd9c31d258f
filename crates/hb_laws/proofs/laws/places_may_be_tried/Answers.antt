use Rattle.hb_laws.proofs.TriedAlone.{up_twice_is_tried, goes_unheld_is_tried, goes_uncome_is_tried, changes_up_is_tried, invents_down_is_tried, changes_down_is_tried, relay_twice_is_tried, relays_unheld_is_tried, relays_uncome_is_tried, changes_forth_is_tried, back_uncome_is_tried, changes_back_is_tried}
use Rattle.hb_laws.proofs.laws.places_may_be_tried.Goals as goal

pub returns : goal.returns
returns c = record {
  up_twice = up_twice_is_tried;
  unheld = goes_unheld_is_tried;
  uncome = goes_uncome_is_tried;
  changes_up = changes_up_is_tried;
  invents = invents_down_is_tried;
  changes = changes_down_is_tried;
  relay_twice = relay_twice_is_tried;
  relay_unheld = relays_unheld_is_tried;
  relay_uncome = relays_uncome_is_tried;
  changes_forth = changes_forth_is_tried;
  back_uncome = back_uncome_is_tried;
  changes_back = changes_back_is_tried;
}
