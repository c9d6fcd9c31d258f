use Rattle.hb_laws.proofs.ByOneLaw.{once_may_be_dialled, came_may_go_down, came_may_go_back}
use Rattle.hb_laws.proofs.laws.good_places_obey_their_law.Goals as goal

pub returns : goal.returns
returns c = record {
  dials = once_may_be_dialled;
  down = came_may_go_down;
  back = came_may_go_back;
}
