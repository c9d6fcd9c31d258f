use Rattle.hb_route.proofs.WaypointMeshes.{fewer, smaller_name, by_service, by_workload, its_own, without_workloads, without_services}
use Rattle.hb_route.proofs.WaypointMeshes.{sick_passed_over, none_healthy, port_too_large, hostname_unknown, address_unknown, another_network}
use Rattle.hb_route.proofs.laws.small_meshes_have_their_waypoints.Goals as goal

pub returns : goal.returns
returns c =
    record {
      fewer = fewer;
      smaller_name = smaller_name;
      by_service = by_service;
      by_workload = by_workload;
      its_own = its_own;
      without_workloads = without_workloads;
      without_services = without_services;
      sick_passed_over = sick_passed_over;
      none_healthy = none_healthy;
      port_too_large = port_too_large;
      hostname_unknown = hostname_unknown;
      address_unknown = address_unknown;
      another_network = another_network;
    }
