-- The way of a connection, or why it has none.
use Rattle.std.specs.Prelude.{ℕ, List, Option, codes}
use Rattle.std.specs.Option.{option_map}
use Rattle.hb_base.specs.declared.target.Target.{Target}
use Rattle.hb_route.specs.declared.answer.NoRoute.{NoRoute}
use Rattle.hb_route.specs.declared.answer.NoRoute.TheVariants.{UnknownSource, NoEndpoint, NoPort}
use Rattle.hb_route.specs.declared.answer.NoRoute.TheVariants.{OtherNetwork, UnknownWaypoint, NoWaypointEndpoint}
use Rattle.hb_route.specs.declared.answer.Route.{Route}
use Rattle.hb_route.specs.declared.answer.Route.TheVariants as routes

-- the number by which a cause names why there is no route; 4 names nothing
abbrev pub number_of : NoRoute → ℕ
number_of UnknownSource = 1
number_of NoEndpoint = 2
number_of NoPort = 3
number_of OtherNetwork = 5
number_of UnknownWaypoint = 6
number_of NoWaypointEndpoint = 7

-- the same in words
abbrev pub text_of : NoRoute → List ℕ
text_of UnknownSource = codes "unknown source"
text_of NoEndpoint = codes "no healthy endpoint"
text_of NoPort = codes "no such port of the service"
text_of OtherNetwork = codes "waypoint of another network"
text_of UnknownWaypoint = codes "unknown waypoint"
text_of NoWaypointEndpoint = codes "no healthy endpoint of the waypoint"

-- by a gateway's address, for an authority, to an endpoint of this name; straight to an address, of an endpoint of this name, where
-- one is known; or none
pub data Way : Type 0 where
  by_gateway : Target → Target → List ℕ → Way
  straight : Target → Option (List ℕ) → Way
  no_way : NoRoute → Way

-- a route, by value
abbrev pub way_as : Route → Way
way_as (routes.Gateway address authority endpoint) = by_gateway address authority endpoint.now
way_as (routes.Direct address endpoint) = straight address (option_map (λ name. name.now) endpoint)
way_as (routes.Refused why) = no_way why
