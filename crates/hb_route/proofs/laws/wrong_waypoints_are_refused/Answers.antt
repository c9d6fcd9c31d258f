use Rattle.hb_route.proofs.WaypointMeshes.{passed_by, sick_passed_by, gone_straight, waypoint_asked_for, named_port}
use Rattle.hb_route.proofs.WaypointMeshes.{busier, other_network, workloads_asked, services_asked}
use Rattle.hb_route.proofs.laws.wrong_waypoints_are_refused.Goals as goal

pub returns : goal.returns
returns c =
    record {
      passed_by = passed_by;
      sick_passed_by = sick_passed_by;
      gone_straight = gone_straight;
      waypoint_asked_for = waypoint_asked_for;
      named_port = named_port;
      busier = busier;
      other_network = other_network;
      workloads_asked = workloads_asked;
      services_asked = services_asked;
    }
