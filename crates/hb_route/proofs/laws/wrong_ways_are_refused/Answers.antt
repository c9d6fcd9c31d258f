use Rattle.hb_route.proofs.Meshes.{busier, sick_reached, gateway_passed_by, service_port, unled_reached}
use Rattle.hb_route.proofs.laws.wrong_ways_are_refused.Goals as goal

pub returns : goal.returns
returns c =
    record {
      busier = busier;
      sick = sick_reached;
      straight = gateway_passed_by;
      port = service_port;
      entry = unled_reached;
    }
