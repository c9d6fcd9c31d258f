use Rattle.hb_captured.proofs.OutboundRefused.{dials_off_its_way, dials_for_gateway, dials_back, dials_unsynced, refuses_straight, mistakes_route}
use Rattle.hb_captured.proofs.laws.wrong_ways_are_refused.Goals as goal

pub returns : goal.returns
returns c = record {
  elsewhere = dials_off_its_way;
  gateway = dials_for_gateway;
  back = dials_back;
  unsynced = dials_unsynced;
  straight = refuses_straight;
  another_route = mistakes_route;
}
