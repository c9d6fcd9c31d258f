use Rattle.hb_route.proofs.Meshes.{fewer, smaller_name, plain_straight, sick_passed_over, none_healthy, other_port, unled_port}
use Rattle.hb_route.proofs.Meshes.{stranger, workload_reached, plain_workload, elsewhere}
use Rattle.hb_route.proofs.laws.small_meshes_have_their_ways.Goals as goal

pub returns : goal.returns
returns c =
    record {
      fewer = fewer;
      name = smaller_name;
      plain = plain_straight;
      sick = sick_passed_over;
      none_healthy = none_healthy;
      port = other_port;
      entry = unled_port;
      source = stranger;
      workload = workload_reached;
      plain_workload = plain_workload;
      elsewhere = elsewhere;
    }
