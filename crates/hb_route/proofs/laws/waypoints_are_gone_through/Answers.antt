use Rattle.hb_route.proofs.Waypoints.{are_gone_through, none_goes_past, no_waypoint_missed, next_to_targets}
use Rattle.hb_route.proofs.laws.waypoints_are_gone_through.Goals as goal

pub returns : goal.returns
returns c =
    record {
      through = are_gone_through;
      straight = none_goes_past;
      missed = no_waypoint_missed;
      none = next_to_targets;
    }
